-- The case that is lent of contents that were read has the lists of the file: each is within its array, so no count is cut.
use Rattle.std.specs.Prelude.{ℕ, ◌≤◌, ◌≡◌, refl, min, List, length, take, get_or}
use Rattle.std.proofs.Common.{ap, ◌∙◌, take_at}
use Rattle.std.proofs.Math.Nat.{min-eq_left}
use Rattle.field.specs.declared.case.Case.{Case}
use Rattle.case_file.specs.declared.Contents.{Contents as ReadContents}
use Rattle.case_file.specs.Format.{kind_of, modulus_kind, first_kind, second_kind, skeleton_kind, point_kind, today}
use Rattle.case_file.specs.Reading.{Reading, read}
use Rattle.case_file.specs.Handed.{Contents, list, padded, contents, contained, Lends}
use Rattle.case_file.specs.Reader.Within.{Fit, read_fit}

-- the modulus and the lists of a reading
pub record LendsRead (o : Reading) (k : Case) : Type 0 where
  pub modulus : k.modulus ≡ get_or (list o modulus_kind) 0 0
  pub first : k.first.now ≡ list o first_kind
  pub second : k.second.now ≡ list o second_kind
  pub skeleton : k.skeleton.now ≡ list o skeleton_kind
  pub points : k.points.now ≡ list o point_kind

-- the first numbers of an array that begins with a list
pub take_padded : (n : ℕ) (xs : List ℕ) → take (length xs) (padded n xs) ≡ xs
unfolding padded
take_padded n xs = take_at xs _ (length xs) refl

-- as many as a count says and the array holds, of a list within it
lent_head : (m : ℕ) (xs : List ℕ) {n : ℕ} {ys : List ℕ} → length xs ≤ m → n ≡ length xs → ys ≡ padded m xs → take (min n m) ys ≡ xs
lent_head m xs h e q = rw (e, q, min-eq_left h) (take_padded m xs)

lends_fit : (o : Reading) {c : ReadContents} {k : Case} → Fit today o → contained c ≡ contents o → Lends c k → LendsRead o k
unfolding kind_of
lends_fit o h e l =
    record {
      modulus = l.modulus ∙ ap (λ (r : Contents). r.modulus) e;
      first =
          l.first ∙ lent_head 256 (list o first_kind) (h first_kind) (ap (λ (r : Contents). r.first_count) e) (ap (λ (r : Contents). r.first) e);
      second =
          l.second ∙ lent_head 256 (list o second_kind) (h second_kind) (ap (λ (r : Contents). r.second_count) e) (ap (λ (r : Contents). r.second) e);
      skeleton =
          l.skeleton
          ∙ lent_head 32 (list o skeleton_kind) (h skeleton_kind) (ap (λ (r : Contents). r.skeleton_count) e) (ap (λ (r : Contents). r.skeleton) e);
      points =
          l.points ∙ lent_head 96 (list o point_kind) (h point_kind) (ap (λ (r : Contents). r.points_count) e) (ap (λ (r : Contents). r.points) e);
    }

pub lends_read : (bs : List ℕ) {c : ReadContents} {k : Case} → contained c ≡ contents (read bs) → Lends c k → LendsRead (read bs) k
lends_read bs = lends_fit (read bs) (read_fit today bs)
