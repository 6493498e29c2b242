-- The loop of `write_numbers`: of the records of the list those of what is left of it are still to be put (`Listing`).
use Rattle.std.proofs.Common.{◌≡◌, ◌∙◌, ◌∷◌, ◌+◌, ◌<◌, ℕ, List, length, get_or, drop, refl, add-one, arith, drop-cons, drop_of_length-le}
use Rattle.case_file.specs.Kinds.{kind_byte}
use Rattle.case_file.specs.Written.{bytes}
use Rattle.case_file.specs.Record.Packing.{length_bytes}
use Rattle.case_file.specs.Writer.Turns.{listing_next, listing_room, listing_end, singles_turn}
use Rattle.case_file.proofs.writer.write_numbers.Goals as goal

-- the next number of a list
next_of : {A : Type 0} (l : List A) (i : ℕ) (x : A) → i < length l → x ≡ get_or l i x → drop i l ≡ x ∷ drop (i + 1) l
next_of l i x h e = drop-cons l i x h ∙ rw (← e, add-one) refl

pub write_record-next-requires : goal.write_record-next-requires
write_record-next-requires g c =
    let t = next_of c.args.list.now c.loop-number.number-index c.number-item.result c.loop-number-test.true c.number-item.is in
    let turn = singles_turn g.T.Number.value c.requires.of_width t in
    let room =
    listing_room c.loop-number.invariant (kind_byte c.args.kind ∷ bytes g.T.Number.width (g.T.Number.value c.number-item.result))
    (drop (c.loop-number.number-index + 1) c.args.list.now) turn c.requires.room
    in
    omega (arith, room, length_bytes g.T.Number.width (g.T.Number.value c.number-item.result))

pub loop-number-preserved : goal.loop-number-preserved
loop-number-preserved g c =
    let t = next_of c.args.list.now c.loop-number.number-index c.number-item.result c.loop-number-test.true c.number-item.is in
    listing_next c.loop-number.invariant (singles_turn g.T.Number.value c.requires.of_width t) c.write_record-next.ensures

pub returns : goal.returns
returns g c = listing_end c.loop-number.invariant (rw (drop_of_length-le c.args.list.now c.loop-number-test.false) refl)
