-- The test of a row, computed: no line refuses its inputs, and what the rule answers is the row's record and terms.
-- The tests of a quotient, of an image and of a product.
use Rattle.std.specs.Prelude.{Bool, true, false, ◌&&◌, List, [], ◌∷◌, ℕ, eqb, length}
use Rattle.field.specs.Prime.{Prime}
use Rattle.field.specs.Moduli.{Listed}
use Rattle.field.specs.Modulus.Laws.{listed_prime, listed_decided}
use Rattle.field.specs.Modulo.{Modulo}
use Rattle.field.specs.Numbers.{DOES_NOT_DIVIDE}
use Rattle.field.specs.Refusal.{Line, fault, none, after_fault}
use Rattle.field.specs.Faults.Decision.{Checks, decided}
use Rattle.poly.specs.ImageCall.{ImageRecord}
use Rattle.poly.specs.QuotientCall.{QuotientRecord}
use Rattle.poly.specs.Terms.{terms_of}
use Rattle.poly.specs.Lists.{of_lists}
use Rattle.poly.specs.ImageCall.{image_table, image_record}
use Rattle.poly.specs.Image.Model.{image_of}
use Rattle.divisor.specs.declared.CandidateRecord.{CandidateRecord}
use Rattle.divisor.specs.Rule.{report}
use Rattle.proved_table.specs.Row.{Row, QuotientRow, ImageRow, Product}
use Rattle.proved_table.specs.Test.TermDivision.{less_all, Outcome, ended, open_still}
use Rattle.proved_table.specs.Test.Decisions.{list_checks, lines, checks, image_checks}
use Rattle.proved_table.specs.Test.Computed.{Computed, unanswered, answered, divided_by, computed}

-- the modulus is listed, and a test that may use it is passed
unfoldable pub listed_and : (p : ℕ) → (Listed p → Bool) → Bool
listed_and p f = elim (listed_decided p) [ yes h ↦ f h | no n ↦ false ]

unfoldable pub same_numbers : List ℕ → List ℕ → Bool
same_numbers [] [] = true
same_numbers [] (n ∷ ns) = false
same_numbers (m ∷ ms) [] = false
same_numbers (m ∷ ms) (n ∷ ns) = eqb m n && same_numbers ms ns

-- the numbers of a record, and terms behind them
abbrev pub numbers : CandidateRecord → List ℕ → List ℕ
numbers r terms = after_fault r.fault (r.degree ∷ r.bad ∷ r.unlucky ∷ r.kept ∷ r.terms ∷ r.steps ∷ terms)

unfoldable pub agrees : Computed → CandidateRecord → List ℕ → Bool
agrees unanswered found terms = false
agrees (answered number counts ts steps) found terms = same_numbers (numbers (report number counts (length ts) steps) ts) (numbers found terms)

module _ (r : Row) where
  -- the lines of its inputs, and their checks
  abbrev pub input_lines : List Line
  input_lines = lines r.modulus r.first_list r.second_list r.skeleton r.points

  abbrev pub input_checks : Checks input_lines
  input_checks = checks r.modulus r.first_list r.second_list r.skeleton r.points

  unfoldable pub passes : Bool
  passes = eqb (decided input_lines input_checks).number 0

  unfoldable pub answers : Listed r.modulus → Bool
  answers h =
      agrees (computed r.modulus (listed_prime h) r.first_list r.second_list r.skeleton r.points r.ceiling) r.found r.terms

  unfoldable pub test : Bool
  test = passes && listed_and r.modulus answers

-- no line of the modulus and the two lists applies
unfoldable pub right_lists : ℕ → List ℕ → List ℕ → Bool
right_lists p A B = eqb (decided (of_lists p A B) (list_checks p A B)).number 0

-- the numbers of a quotient's record, and terms behind them
abbrev pub quotient_numbers : QuotientRecord → List ℕ → List ℕ
quotient_numbers r terms = after_fault r.fault (r.terms ∷ terms)

-- f less the product of the two leaves nothing
unfoldable pub multiplies : (p : ℕ) → Prime p → Product → Bool
multiplies p P q = elim (less_all (Modulo p P) (terms_of p P q.whole) (terms_of p P q.first) (terms_of p P q.second)) [ [] ↦ true | t ∷ ts ↦ false ]

module _ (r : QuotientRow) where
  -- the product that the row's terms make
  abbrev pub product_of : Product
  product_of = record { whole = r.first_list; first = r.second_list; second = r.terms }

  -- by what the division finds: the row's terms are the quotient, or the row has 15 and no terms
  unfoldable pub quotient_agrees : Prime r.modulus → Outcome → Bool
  quotient_agrees P (ended n true) =
      right_lists r.modulus r.first_list r.terms && multiplies r.modulus P product_of
      && same_numbers (quotient_numbers r.found r.terms) (after_fault none (length r.terms ∷ r.terms))
  quotient_agrees P (ended n false) = same_numbers (quotient_numbers r.found r.terms) (after_fault (fault DOES_NOT_DIVIDE 0) (0 ∷ []))
  quotient_agrees P open_still = false

  unfoldable pub quotient_test : Bool
  quotient_test =
      right_lists r.modulus r.first_list r.second_list
      && listed_and r.modulus (λ h. quotient_agrees (listed_prime h) (divided_by r.modulus (listed_prime h) r.second_list r.first_list))

-- the numbers of an image's record
abbrev pub image_numbers : ImageRecord → List ℕ
image_numbers r = after_fault r.fault (r.degree ∷ r.coefficients)

module _ (r : ImageRow) where
  unfoldable pub image_passes : Bool
  image_passes = eqb (decided (image_table r.call) (image_checks r.call)).number 0

  unfoldable pub image_agrees : Bool
  image_agrees =
      let seen = image_of r.call.modulus r.call.first_list r.call.second_list r.call.point in
      same_numbers (image_numbers r.found) (image_numbers (image_record seen.size seen.coefficients))

  unfoldable pub image_test : Bool
  image_test = image_passes && image_agrees
