-- What the reader gives, list by list, to who lends it arrays: each list of the case stands first in its array, and on refusal they are empty.
use Rattle.std.specs.Prelude.{ℕ, List}
use Rattle.case_file.specs.Format.{first_kind, second_kind, skeleton_kind, point_kind}
use Rattle.case_file.specs.Reading.{Reading}
use Rattle.case_file.specs.Handed.{Counts, Gives, list}
use Rattle.console.specs.Input.First.{First, padded_first}

pub record Lists (o : Reading) (r : Counts) (first second skeleton points : List ℕ) : Type 0 where
  pub first_list : First r.first first (list o first_kind)
  pub second_list : First r.second second (list o second_kind)
  pub skeleton_list : First r.skeleton skeleton (list o skeleton_kind)
  pub point_list : First r.points points (list o point_kind)

pub lists_read : {o : Reading} {r : Counts} {first second skeleton points : List ℕ} → Gives o r first second skeleton points
    → Lists o r first second skeleton points
lists_read h = record {
  first_list = padded_first _ _ _ _ (rw h.record_is) h.first_is;
  second_list = padded_first _ _ _ _ (rw h.record_is) h.second_is;
  skeleton_list = padded_first _ _ _ _ (rw h.record_is) h.skeleton_is;
  point_list = padded_first _ _ _ _ (rw h.record_is) h.points_is;
}
