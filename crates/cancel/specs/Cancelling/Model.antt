-- What the parts of the key ask for and promise.
use Rattle.std.specs.Prelude.{◌≡◌, ◌⊎◌, List, length, get_or, ℕ, ◌≤◌, ◌<◌}
use Rattle.poly.specs.QuotientCall.{QuotientRecord}
use Rattle.poly.specs.Keys.{keys}
use Rattle.poly.specs.Terms.{coefficient_of}
use Rattle.poly.specs.QuotientCall.{quotient_call, quotient_result, Quotient}
use Rattle.divisor.specs.declared.CandidateRecord.{CandidateRecord}
use Rattle.divisor.specs.Candidate.{most_keys}
use Rattle.cancel.specs.declared.CancelRecord.{CancelRecord}
use Rattle.cancel.specs.CancelCall.{with_both}
use Rattle.cancel.specs.Scaling.Model.{times}

-- the room for the divisor that is lent to the candidate, by the lengths of the two outputs: none where one is too short
pub data RoomFor (numerator denominator : ℕ) : ℕ → Type 0 where
  none_lent : (numerator < keys) ⊎ (denominator < keys) → RoomFor numerator denominator 0
  enough : keys ≤ numerator → keys ≤ denominator → RoomFor numerator denominator most_keys

-- a modulus that is not 0, and a denominator that has a first term
pub record CanReduce (p : ℕ) (D : List ℕ) : Type 0 where
  pub positive : 0 < p
  pub some : 0 < length D

-- the coefficient of the first term
abbrev pub first_coefficient : List ℕ → ℕ
first_coefficient ts = coefficient_of (get_or ts 0 0)

-- the divisor times the first coefficient of the denominator
abbrev pub scaled_divisor : ℕ → List ℕ → List ℕ → List ℕ
scaled_divisor p D divisor = times p (first_coefficient D) divisor

-- the divisor is changed to that, and the quotient service asked for both lists over it; what is told are the candidate's numbers and both counts
pub record TwoQuotients (p : ℕ) (N D divisor divisor' numerator numerator' denominator denominator' work work' : List ℕ) (found : CandidateRecord)
    (r : CancelRecord) : Type 0 where
  pub changed : divisor' ≡ scaled_divisor p D divisor
  pub first : QuotientRecord
  pub second : QuotientRecord
  pub between : List ℕ
  pub of_numerator : Quotient (quotient_call p N divisor' numerator work) (quotient_result first numerator' between)
  pub of_denominator : Quotient (quotient_call p D divisor' denominator between) (quotient_result second denominator' work')
  pub told : r ≡ with_both found first.terms second.terms
