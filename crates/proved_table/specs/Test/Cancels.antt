-- The test of a row of the Cancel key, computed: its candidate's row passes; its record is the candidate's with both counts; and N' and D' are nothing
-- where the candidate refuses, or else right lists, D' begins with 1, and G times c times each is N and D.
use Rattle.std.specs.Prelude.{Bool, true, false, ◌&&◌, List, [], ◌∷◌, ℕ, eqb, length}
use Rattle.field.specs.Prime.{Prime}
use Rattle.field.specs.Modulus.Laws.{listed_prime}
use Rattle.field.specs.Refusal.{after_fault}
use Rattle.poly.specs.Terms.{coefficient_of}
use Rattle.cancel.specs.declared.CancelRecord.{CancelRecord}
use Rattle.cancel.specs.CancelCall.{with_both}
use Rattle.cancel.specs.Scaling.Model.{times}
use Rattle.proved_table.specs.Row.{CancelRow, Product}
use Rattle.proved_table.specs.Test.Rows.{listed_and, same_numbers, test, right_lists, multiplies}

-- the numbers of the key's record
abbrev pub cancel_numbers : CancelRecord → List ℕ
cancel_numbers r = after_fault r.fault (r.degree ∷ r.bad ∷ r.unlucky ∷ r.kept ∷ r.numerator ∷ r.denominator ∷ r.steps ∷ [])

-- the first coefficient is 1
unfoldable pub begins_with_one : List ℕ → Bool
begins_with_one [] = false
begins_with_one (t ∷ ts) = eqb (coefficient_of t) 1

module _ (r : CancelRow) where
  -- G times c, and terms, make a list
  abbrev pub product_with : List ℕ → List ℕ → Product
  product_with whole terms = record { whole = whole; first = times r.divisor.modulus r.factor r.divisor.terms; second = terms }

  -- by whether the candidate has accepted
  unfoldable pub hands_out : Prime r.divisor.modulus → Bool → Bool
  hands_out P true =
      right_lists r.divisor.modulus r.numerator r.denominator && begins_with_one r.denominator
      && multiplies r.divisor.modulus P (product_with r.divisor.first_list r.numerator)
      && multiplies r.divisor.modulus P (product_with r.divisor.second_list r.denominator)
  hands_out P false = same_numbers r.numerator [] && same_numbers r.denominator []

  unfoldable pub cancel_test : Bool
  cancel_test =
      test r.divisor
      && same_numbers (cancel_numbers r.found) (cancel_numbers (with_both r.divisor.found (length r.numerator) (length r.denominator)))
      && listed_and r.divisor.modulus (λ h. hands_out (listed_prime h) (eqb r.divisor.found.fault.number 0))
