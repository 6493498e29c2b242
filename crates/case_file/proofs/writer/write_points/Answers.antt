-- The loop of `write_points`: of the records of the list those of what is left behind i points are still to be put (`Listing`).
use Rattle.std.proofs.Common.{◌≡◌, ℕ, List, length, get_or, take, drop, refl, sym, ◌∙◌, ap, [], ◌∷◌, ◌++◌, ◌+◌, ◌-◌, ◌*◌, ◌/◌, ◌<◌, arith, length-take-le, length-drop, take-append-drop, drop-drop}
use Rattle.case_file.specs.Format.{point_kind, kind_of, widths, today}
use Rattle.case_file.specs.Written.{packed, records}
use Rattle.case_file.specs.WriteCall.{triples}
use Rattle.case_file.specs.Record.Packing.{length_packed}
use Rattle.case_file.specs.Writer.Turns.{listing_next, listing_room, listing_end, triples_turn, too_few}
use Rattle.case_file.proofs.writer.write_points.Goals as goal

-- a point has three numbers of two bytes
of_points : widths today point_kind ≡ 2 ∷ 2 ∷ 2 ∷ []
unfolding kind_of
of_points = refl

-- what is lent of point i
abbrev point : List ℕ → ℕ → List ℕ
point ns i = take (3 * i + 3 - 3 * i) (drop (3 * i) ns)

abbrev numbers : List ℕ → List ℕ
numbers p = get_or p 0 0 ∷ get_or p 1 0 ∷ get_or p 2 0 ∷ []

-- it has three numbers, and what is left begins with it
turn : (ns : List ℕ) (i : ℕ) → i < length ns / 3
    → records today point_kind (triples (drop (3 * i) ns))
    ≡ (point_kind ∷ packed (2 ∷ 2 ∷ 2 ∷ []) (numbers (point ns i))) ++ records today point_kind (triples (drop (3 * (i + 1)) ns))
turn ns i h =
    let three : 3 * i + 3 - 3 * i ≡ 3 = omega arith in
    let next : 3 * i + 3 ≡ 3 * (i + 1) = omega arith in
    let long : length (point ns i) ≡ 3 = ap (λ (n : ℕ). length (take n (drop (3 * i) ns))) three ∙ length-take-le 3 (drop (3 * i) ns) (omega (arith, length-drop (3 * i) ns)) in
    triples_turn of_points (point ns i) (drop (3 * (i + 1)) ns) long
    (sym (take-append-drop (3 * i + 3 - 3 * i) (drop (3 * i) ns))
    ∙ ap (λ (l : List ℕ). point ns i ++ l) (ap (λ (n : ℕ). drop n (drop (3 * i) ns)) three ∙ drop-drop 3 (3 * i) ns ∙ ap (λ (n : ℕ). drop n ns) next))

pub write_point-next-requires : goal.write_point-next-requires
write_point-next-requires c =
    let ns = c.args.numbers.now in
    let i = c.loop-i.i in
    let p = numbers (point ns i) in
    let room =
    listing_room c.loop-i.invariant (point_kind ∷ packed (2 ∷ 2 ∷ 2 ∷ []) p) (drop (3 * (i + 1)) ns)
    (turn ns i c.loop-i-test.true) c.requires
    in
    omega (arith, room, length_packed (2 ∷ 2 ∷ 2 ∷ []) p refl)

pub loop-i-preserved : goal.loop-i-preserved
loop-i-preserved c = listing_next c.loop-i.invariant (turn c.args.numbers.now c.loop-i.i c.loop-i-test.true) c.write_point-next.ensures

pub returns : goal.returns
returns c =
    let ns = c.args.numbers.now in
    listing_end c.loop-i.invariant (too_few (drop (3 * c.loop-i.i) ns) (omega (arith, length-drop (3 * c.loop-i.i) ns)))
