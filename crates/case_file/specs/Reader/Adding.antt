-- What `with_record` asks and promises, and why it holds for each kind: the record's numbers go behind those of its list, the other lists stay.
use Rattle.std.specs.Prelude.{ℕ, ◌+◌, ◌%◌, ◌≤◌, ◌<◌, ◌≡◌, List, [], ◌∷◌, length, drop}
use Rattle.std.proofs.Common.{arith}
use Rattle.case_file.specs.Format.{modulus_kind, first_kind, second_kind, skeleton_kind, point_kind, end_kind}
use Rattle.case_file.specs.Format.{kind_of, first_term, key, point, limit, body, content, today}
use Rattle.case_file.specs.Case.{Case, added, flat}
use Rattle.case_file.specs.Reading.{whole}
use Rattle.case_file.specs.Handed.{Counts, Gives}
use Rattle.field.specs.Loops.Putting.{Puts}
use Rattle.case_file.specs.Record.Room.{held, Place, two, four}
use Rattle.case_file.specs.Record.Packing.{of_two, of_four, of_three}
use Rattle.case_file.specs.Record.Arrays.{one_more, gives}

-- a record of kind k, whose body begins at the offset at, can be added
pub record Ready (bytes : List ℕ) (k at : ℕ) (r : Counts) : Type 0 where
  pub low : modulus_kind ≤ k
  pub high : k < end_kind
  pub whole : at + body today k ≤ length bytes
  pub room : held r k < limit today k
  pub threes : r.points % 3 ≡ 0

-- the record is added: what holds a case in the arrays and the counts then holds the case with that record
abbrev pub Adds : (bytes : List ℕ) (k at : ℕ) (r r' : Counts) (first second skeleton points first' second' skeleton' points' : List ℕ) → Type 0
Adds bytes k at r r' first second skeleton points first' second' skeleton' points' =
    (c : Case)
    → Gives (whole c 0) r first second skeleton points
    → (k ≡ modulus_kind → c k ≡ [])
    → Gives (whole (added k (content today k (drop at bytes) ∷ []) c) 0) r' first' second' skeleton' points'

-- the record with these numbers beside fault and next
abbrev counts_of : Counts → (modulus first second skeleton points : ℕ) → Counts
counts_of r m f s k p =
    record { fault = r.fault; next = r.next; modulus = m; first = f; second = s; skeleton = k; points = p }

module _ {bytes : List ℕ} {k at : ℕ} {r : Counts} (ready : Ready bytes k at r) where
  pub modulus_whole : k ≡ modulus_kind → at + 2 ≤ length bytes
  unfolding kind_of
  modulus_whole e = rw e at ready.whole

  pub first_place : k ≡ first_kind → Place first_term bytes at r.first
  unfolding kind_of
  first_place e = record { whole = rw e at ready.whole; room = omega (arith, rw e at ready.room) }

  pub second_place : k ≡ second_kind → Place first_term bytes at r.second
  unfolding kind_of
  second_place e = record { whole = rw e at ready.whole; room = omega (arith, rw e at ready.room) }

  pub key_place : k ≡ skeleton_kind → Place key bytes at r.skeleton
  unfolding kind_of
  key_place e = record { whole = rw e at ready.whole; room = omega (arith, rw e at ready.room) }

  pub point_place : k ≡ point_kind → Place point bytes at r.points
  unfolding kind_of
  point_place e = record { whole = rw e at ready.whole; room = omega (arith, ready.threes, rw e at ready.room) }

  module _ {f s l p : List ℕ} where
    pub modulus_added : k ≡ modulus_kind → {m : ℕ} → m ≡ two bytes at
        → Adds bytes k at r (counts_of r m r.first r.second r.skeleton r.points) f s l p f s l p
    unfolding kind_of added flat
    modulus_added e v c g fresh =
        let b = of_two bytes at (modulus_whole e) in
        rw e (gives (rw (g.record_is, rw e at (fresh e), v, b)) g.first_is g.second_is g.skeleton_is g.points_is)

    pub first_added : k ≡ first_kind → {v n : ℕ} {f' : List ℕ} → v ≡ four bytes at → Puts (v ∷ []) r.first n f f'
        → Adds bytes k at r (counts_of r r.modulus n r.second r.skeleton r.points) f s l p f' s l p
    unfolding kind_of added
    first_added e {v} t q c g fresh =
        let a = first_place e in
        let m = one_more a (c first_kind) (rw g.record_is) (v ∷ []) (rw (of_four bytes at a.whole, t)) g.first_is q in
        rw e (gives (rw (m.0, g.record_is)) m.1 g.second_is g.skeleton_is g.points_is)

    pub second_added : k ≡ second_kind → {v n : ℕ} {s' : List ℕ} → v ≡ four bytes at → Puts (v ∷ []) r.second n s s'
        → Adds bytes k at r (counts_of r r.modulus r.first n r.skeleton r.points) f s l p f s' l p
    unfolding kind_of added
    second_added e {v} t q c g fresh =
        let a = second_place e in
        let m = one_more a (c second_kind) (rw g.record_is) (v ∷ []) (rw (of_four bytes at a.whole, t)) g.second_is q in
        rw e (gives (rw (m.0, g.record_is)) g.first_is m.1 g.skeleton_is g.points_is)

    pub key_added : k ≡ skeleton_kind → {v n : ℕ} {l' : List ℕ} → v ≡ two bytes at → Puts (v ∷ []) r.skeleton n l l'
        → Adds bytes k at r (counts_of r r.modulus r.first r.second n r.points) f s l p f s l' p
    unfolding kind_of added
    key_added e {v} t q c g fresh =
        let a = key_place e in
        let m = one_more a (c skeleton_kind) (rw g.record_is) (v ∷ []) (rw (of_two bytes at a.whole, t)) g.skeleton_is q in
        rw e (gives (rw (m.0, g.record_is)) g.first_is g.second_is m.1 g.points_is)

    pub point_added : k ≡ point_kind → {y z w n : ℕ} {p' : List ℕ} → y ≡ two bytes at → z ≡ two bytes (at + 2) → w ≡ two bytes (at + 4)
        → Puts (y ∷ z ∷ w ∷ []) r.points n p p'
        → Adds bytes k at r (counts_of r r.modulus r.first r.second r.skeleton n) f s l p f s l p'
    unfolding kind_of added
    point_added e {y} {z} {w} t u v q c g fresh =
        let a = point_place e in
        let m = one_more a (c point_kind) (rw g.record_is) (y ∷ z ∷ w ∷ []) (rw (of_three bytes at a.whole, t, u, v)) g.points_is q in
        rw e (gives (rw (m.0, g.record_is)) g.first_is g.second_is g.skeleton_is m.1)
