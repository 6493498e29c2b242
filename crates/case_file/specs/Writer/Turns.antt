-- The records of a list one after another, and the parts of a file: what is written next, and what is left.
use Rattle.std.specs.Prelude.{◌≡◌, get_or}
use Rattle.std.proofs.Math.Path.{refl}
use mathlib.Core.List.{List, [], ◌∷◌, ◌++◌, append-nil}
use Prim.Native.Nat.{ℕ, ◌+◌, ◌/◌, ◌≤◌, ◌<◌}
use native.Mathlib.Omega.{arith}
use Rattle.std.proofs.Math.ListN.{length}
use Rattle.std.specs.Int.{w16, w32, to_le_bytes}
use Rattle.field.specs.Loops.Putting.{Puts, Putting, putting_next, putting_room, putting_end, puts_append}
use Rattle.case_file.specs.Format.{base, modulus_kind, first_kind, second_kind, skeleton_kind, point_kind, end_kind, kind_of, widths, today}
use Rattle.case_file.specs.Case.{added}
use Rattle.case_file.specs.Written.{bytes, packed, records, in_order, file_of}
use Rattle.case_file.specs.WriteCall.{WriteCall, singles, singles_of, triples, file}

-- the library's bytes of a number, of two and of four
pub two_bytes : (v : ℕ) → to_le_bytes w16 v ≡ bytes 2 v
unfolding bytes
two_bytes v = refl

pub four_bytes : (v : ℕ) → to_le_bytes w32 v ≡ bytes 4 v
unfolding bytes
four_bytes v =
    let a : v / 65536 ≡ v / base / base = omega arith in
    let b : v / 16777216 ≡ v / base / base / base = omega arith in
    rw (a, b) refl

-- three numbers of two bytes behind a kind
pub puts_point : (x y z w : ℕ) {n i j r : ℕ} {before now next after : List ℕ} → Puts (x ∷ bytes 2 y) n i before now → Puts (bytes 2 z) i j now next
    → Puts (bytes 2 w) j r next after → Puts (x ∷ packed (2 ∷ 2 ∷ 2 ∷ []) (y ∷ z ∷ w ∷ [])) n r before after
unfolding packed
puts_point x y z w p q s = rw (append-nil (bytes 2 w)) (puts_append p (puts_append q s))

pub too_few : (ns : List ℕ) → length ns < 3 → triples ns ≡ []
unfolding triples
too_few [] h = refl
too_few (y ∷ []) h = refl
too_few (y ∷ z ∷ []) h = refl
too_few (y ∷ z ∷ w ∷ ns) h = absurd (omega arith)

-- the loop over a list, whose records are put from the place n on: those of what is left of it are still to be put, at the place m
pub record Listing {A : Type 0} (split : List A → List (List ℕ)) (k : ℕ) (l : List A) (n : ℕ) (before : List ℕ) (left : List A) (m : ℕ) (now : List ℕ)
    : Type 0 where
  pub putting : Putting (records today k (split l)) n m before now (records today k (split left))

module _ {A : Type 0} {split : List A → List (List ℕ)} {k : ℕ} {l : List A} {n m : ℕ} {before now : List ℕ} {left : List A}
    (p : Listing split k l n before left m now) where
  -- a record is put, and there is room for it where there is room for all
  pub listing_next : {vs : List ℕ} {later : List A} → records today k (split left) ≡ vs ++ records today k (split later)
      → {r : ℕ} {after : List ℕ} → Puts vs m r now after → Listing split k l n before later r after
  listing_next t q = record { putting = putting_next p.putting t q }

  pub listing_room : (vs : List ℕ) (later : List A) → records today k (split left) ≡ vs ++ records today k (split later)
      → n + length (records today k (split l)) ≤ length before → m + length vs ≤ length now
  listing_room vs later t room = putting_room p.putting vs (records today k (split later)) t room

  pub listing_end : split left ≡ [] → Puts (records today k (split l)) n m before now
  unfolding records
  listing_end h = putting_end p.putting (rw h)

-- the next record, of one number of w bytes
pub singles_turn : {A : Type 0} (value : A → ℕ) {k w : ℕ} → widths today k ≡ w ∷ [] → {left later : List A} {x : A} → left ≡ x ∷ later
    → records today k (singles_of value left) ≡ (k ∷ bytes w (value x)) ++ records today k (singles_of value later)
unfolding records packed
singles_turn value {w = w} e {x = x} t = rw (t, e, append-nil (bytes w (value x)))

-- the next record, of three numbers
pub triples_turn : {k : ℕ} {ws : List ℕ} → widths today k ≡ ws → {left : List ℕ} (point later : List ℕ) → length point ≡ 3 → left ≡ point ++ later
    → records today k (triples left)
    ≡ (k ∷ packed ws (get_or point 0 0 ∷ get_or point 1 0 ∷ get_or point 2 0 ∷ [])) ++ records today k (triples later)
unfolding records triples
triples_turn e [] later s t = absurd (omega arith)
triples_turn e (y ∷ []) later s t = absurd (omega arith)
triples_turn e (y ∷ z ∷ []) later s t = absurd (omega arith)
triples_turn e (y ∷ z ∷ w ∷ []) later s t = rw (t, e)
triples_turn e (y ∷ z ∷ w ∷ v ∷ ns) later s t = absurd (omega arith)

-- the parts of a file, and what is left of it from each part on
module _ (c : WriteCall) where
  abbrev pub first_part : List ℕ
  first_part = records today first_kind (singles c.first_list)

  abbrev pub second_part : List ℕ
  second_part = records today second_kind (singles c.second_list)

  abbrev pub skeleton_part : List ℕ
  skeleton_part = records today skeleton_kind (singles c.skeleton)

  abbrev pub points_part : List ℕ
  points_part = records today point_kind (triples c.points)

  abbrev pub from_points : List ℕ
  from_points = points_part ++ end_kind ∷ []

  abbrev pub from_skeleton : List ℕ
  from_skeleton = skeleton_part ++ from_points

  abbrev pub from_second : List ℕ
  from_second = second_part ++ from_skeleton

  abbrev pub from_first : List ℕ
  from_first = first_part ++ from_second

  pub file_parts : file c ≡ (modulus_kind ∷ bytes 2 c.modulus) ++ from_first
  unfolding file_of in_order added records packed bytes kind_of
  file_parts = refl
