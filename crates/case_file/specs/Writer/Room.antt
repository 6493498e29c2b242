-- What the functions of the writer ask: room in the buffer.
use Rattle.std.specs.Prelude.{◌≡◌, List, [], ◌∷◌, length, ℕ, ◌+◌, ◌≤◌}
use Rattle.case_file.specs.declared.record.Kind.{Kind}
use Rattle.case_file.specs.Format.{widths, today}
use Rattle.case_file.specs.Written.{records}
use Rattle.case_file.specs.WriteCall.{singles_of}
use Rattle.case_file.specs.Kinds.{kind_byte}

-- the buffer has room for the records of a list, of a kind with one number of these bytes
pub record NumbersFit {A : Type 0} (width : ℕ) (value : A → ℕ) (kind : Kind) (list : List A) (at : ℕ) (buffer : List ℕ) : Type 0 where
  pub of_width : widths today (kind_byte kind) ≡ width ∷ []
  pub room : at + length (records today (kind_byte kind) (singles_of value list)) ≤ length buffer
