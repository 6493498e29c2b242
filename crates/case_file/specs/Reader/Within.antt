-- The counts that the reader hands back stay within the arrays, so that a caller can take a list as the head of its array.
use Prim.Native.Nat.{ℕ, zero, suc, ◌+◌, ◌*◌, ◌≤◌}
use mathlib.Core.List.{List, [], ◌∷◌}
use native.Mathlib.Omega.{arith}
use Rattle.std.specs.Prelude.{length}
use Rattle.field.specs.Numbers.{AFTER_END, NO_END}
use Rattle.case_file.specs.Format.{Format, first_kind, second_kind, skeleton_kind, point_kind, count, body, limit, content, today}
use Rattle.case_file.specs.Case.{Case, no_records, added, flat}
use Rattle.case_file.specs.Reading.{Reading, refused, reading, read_one_in, read_in, read_one, read}
use Rattle.case_file.specs.Handed.{Counts, list, Gives}
use Rattle.case_file.specs.Record.Tests.{passed}
use Rattle.case_file.specs.Reader.Steps.{by_record}
use Rattle.case_file.specs.Reader.Alone.{alone_each}
use Rattle.case_file.specs.Reader.Standing.{Standing, standing_start, standing_more, fits}

module _ (f : Format) where
  -- the lists fit their arrays
  abbrev pub Fit : Reading → Type 0
  Fit o = (j : ℕ) → length (list o j) ≤ limit f j * count f j

  refused_fit : (e i : ℕ) → Fit (refused e i)
  unfolding flat
  refused_fit e i j = omega arith

  reading_fit : (s at before : ℕ) (c : Case) (bs : List ℕ) → Standing f before c → Fit (reading f s at before c bs)
  unfolding reading
  reading_fit zero at before c [] t = refused_fit NO_END at
  reading_fit (suc s) at before c [] t = refused_fit NO_END at
  reading_fit (suc s) at before c (b ∷ bs) t = reading_fit s (at + 1) before c bs t
  reading_fit zero at before c (k ∷ bs) t =
      by_record f at before c k bs Fit (λ e h z. refused_fit e at)
      (λ h q. fits f k (added k (content f k bs ∷ []) c) (standing_more f before k (length bs) c bs t (passed f before k _ _ h)))
      (λ h q. reading_fit (body f k) (at + 1) k _ bs (standing_more f before k (length bs) c bs t (passed f before k _ _ h)))

  pub read_one_fit : (bs : List ℕ) → Fit (read_one_in f bs)
  unfolding read_one_in
  read_one_fit bs = reading_fit 0 0 0 no_records bs (standing_start f)

  pub read_fit : (bs : List ℕ) → Fit (read_in f bs)
  unfolding read_in
  read_fit bs = alone_each Fit (length bs) (read_one_in f bs) (refused_fit AFTER_END) (read_one_fit bs)

-- today's format
pub record Within (r : Counts) : Type 0 where
  pub first : r.first ≤ limit today first_kind * count today first_kind
  pub second : r.second ≤ limit today second_kind * count today second_kind
  pub skeleton : r.skeleton ≤ limit today skeleton_kind * count today skeleton_kind
  pub points : r.points ≤ limit today point_kind * count today point_kind

within : (o : Reading) {r : Counts} {f s k p : List ℕ} → Fit today o → Gives o r f s k p → Within r
within o h g =
    record {
      first = rw g.record_is (h first_kind);
      second = rw g.record_is (h second_kind);
      skeleton = rw g.record_is (h skeleton_kind);
      points = rw g.record_is (h point_kind);
    }

module _ (bs : List ℕ) {r : Counts} {f s k p : List ℕ} where
  pub read_one_within : Gives (read_one bs) r f s k p → Within r
  read_one_within g = within (read_one bs) (read_one_fit today bs) g

  pub read_within : Gives (read bs) r f s k p → Within r
  read_within g = within (read bs) (read_fit today bs) g
