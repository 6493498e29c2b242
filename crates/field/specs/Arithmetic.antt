-- The arithmetic services: which lines of the table concern their operands, and what is answered.
use Rattle.std.specs.Prelude.{◌≡◌, ◌⊎◌, List, [], ◌∷◌, ◌++◌, ◌≤◌}
use Rattle.field.specs.Moduli.{Listed}
use Rattle.field.specs.Numbers.{MODULUS, OPERAND, INVERSE_OF_ZERO}
use Rattle.field.specs.Refusal.{Line, line, placed, whole, none, Refuses, Passes}
use Rattle.field.specs.Contract.{element, sum_of, difference_of, product_of, Inverse}
use Rattle.field.specs.declared.faults.Fault.{Fault}
use Rattle.field.specs.declared.elements.Element.{Element}

-- What a service tells: a fault and an element.
pub record Answer : Type 0 where
  pub fault : Fault
  pub element : Element

-- the modulus is not in the list; the first operand is at least p
abbrev pub first_operand : Element → List Line
first_operand a =
    line MODULUS (whole (¬ Listed a.modulus))
    ∷ line OPERAND (placed 0 (a.modulus ≤ a.value))
    ∷ []

-- the second operand is at least p, or its modulus is not the first's
abbrev pub second_operand : Element → Element → List Line
second_operand a b = line OPERAND (placed 1 ((a.modulus ≤ b.value) ⊎ (¬ (b.modulus ≡ a.modulus)))) ∷ []

abbrev pub two_operands : Element → Element → List Line
two_operands a b = first_operand a ++ second_operand a b

-- an inverse of 0
abbrev pub no_inverse : Element → List Line
no_inverse a = line INVERSE_OF_ZERO (whole (a.value ≡ 0)) ∷ []

abbrev pub inverse_operand : Element → List Line
inverse_operand a = first_operand a ++ no_inverse a

-- told of a refusal: 0 with the first operand's modulus as it came
abbrev pub refused_answer : Element → Fault → Answer
refused_answer a f = record { fault = f; element = element a.modulus 0 }

-- told of an outcome
abbrev pub given_answer : Element → Answer
given_answer outcome = record { fault = none; element = outcome }

-- A line applies: its fault, and 0 with the first operand's modulus as it came. No line applies: the outcome.
pub data Arithmetic (lines : List Line) (Outcome : Element → Type 0) (a : Element) : Answer → Type 0 where
  refused : (fault : Fault) → Refuses lines fault
      → Arithmetic lines Outcome a (refused_answer a fault)
  answered : (outcome : Element) → Passes lines → Outcome outcome
      → Arithmetic lines Outcome a (given_answer outcome)

abbrev pub AskSum : Element → Element → Answer → Type 0
AskSum a b = Arithmetic (two_operands a b) (λ r. r ≡ sum_of a b) a

abbrev pub AskDifference : Element → Element → Answer → Type 0
AskDifference a b = Arithmetic (two_operands a b) (λ r. r ≡ difference_of a b) a

abbrev pub AskProduct : Element → Element → Answer → Type 0
AskProduct a b = Arithmetic (two_operands a b) (λ r. r ≡ product_of a b) a

abbrev pub AskInverse : Element → Answer → Type 0
AskInverse a = Arithmetic (inverse_operand a) (Inverse a) a
