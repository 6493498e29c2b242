-- The kinds of the code as the kind bytes of the format.
use Rattle.std.specs.Prelude.{◌≡◌, ℕ, false, Result, MatchResult}
use Rattle.field.specs.Numbers.{KIND_UNKNOWN}
use Rattle.case_file.specs.declared.record.Kind.{Kind}
use Rattle.case_file.specs.declared.record.Kind.TheVariants.{Modulus, First, Second, Skeleton, Point, End}
use Rattle.case_file.specs.Format.{modulus_kind, first_kind, second_kind, skeleton_kind, point_kind, end_kind, known, today}

-- the kind byte
abbrev pub kind_byte : Kind → ℕ
kind_byte Modulus = modulus_kind
kind_byte First = first_kind
kind_byte Second = second_kind
kind_byte Skeleton = skeleton_kind
kind_byte Point = point_kind
kind_byte End = end_kind

-- the kind of a byte, or the refusal of a byte that is not known
abbrev pub Decodes : ℕ → Result Kind ℕ → Type 0
Decodes byte r = MatchResult r (λ k. kind_byte k ≡ byte) (λ e. (e ≡ KIND_UNKNOWN) × (known today byte ≡ false))
