-- The kinds and their bytes: each is known, no two are equal, so a byte settles what it decodes to; and what the tests of a record give.
use Rattle.std.specs.Prelude.{◌≡◌, refl, ℕ, true, [], ◌∷◌, get_or, None, Some, Result, Ok, Err, MatchResult}
use Rattle.std.specs.declared.option.Option.{Option}
use Rattle.std.proofs.Common.{sym, ap, ◌∙◌, true≢false}
use Rattle.case_file.specs.declared.record.Kind.{Kind}
use Rattle.case_file.specs.declared.record.Kind.TheVariants.{Modulus, First, Second, Skeleton, Point, End}
use Rattle.case_file.specs.Format.{known, today}
use Rattle.case_file.specs.Kinds.{kind_byte, Decodes}
use Rattle.case_file.specs.Reading.{fault_number}

-- the byte of the kind before, 0 at the start of a file
abbrev pub standing : Option Kind → ℕ
standing None = 0
standing (Some k) = kind_byte k

-- each kind is known
pub kind_known : (k : Kind) → known today (kind_byte k) ≡ true
unfolding known
kind_known Modulus = refl
kind_known First = refl
kind_known Second = refl
kind_known Skeleton = refl
kind_known Point = refl
kind_known End = refl

-- no two kinds have one byte
abbrev kind_at : ℕ → Kind
kind_at n = get_or (End ∷ Modulus ∷ First ∷ Second ∷ Skeleton ∷ Point ∷ []) n End

at_byte : (k : Kind) → kind_at (kind_byte k) ≡ k
at_byte Modulus = refl
at_byte First = refl
at_byte Second = refl
at_byte Skeleton = refl
at_byte Point = refl
at_byte End = refl

-- so a byte settles the `Result`
pub decodes_determined : (byte : ℕ) (r q : Result Kind ℕ) → Decodes byte r → Decodes byte q → r ≡ q
decodes_determined byte (Ok k) (Ok l) h i = ap Ok (sym (at_byte k) ∙ ap kind_at (h ∙ sym i) ∙ at_byte l)
decodes_determined byte (Ok k) (Err e) h i = absurd (true≢false (sym (kind_known k) ∙ ap (known today) h ∙ i.1))
decodes_determined byte (Err e) (Ok l) h i = absurd (true≢false (sym (kind_known l) ∙ ap (known today) i ∙ h.1))
decodes_determined byte (Err e) (Err f) h i = ap Err (h.0 ∙ sym i.0)

-- the kind of a byte whose record passes its tests, or the number of the first test that it does not pass
abbrev pub Tests : (before byte held left : ℕ) → Result Kind ℕ → Type 0
Tests before byte held left r =
    MatchResult r (λ k. (kind_byte k ≡ byte) × (fault_number today before byte held left ≡ 0))
    (λ e. (e ≡ fault_number today before byte held left) × ¬ (e ≡ 0))
