-- The quotient service: what is lent, the refusals in table order, and what is answered and left behind in every case.
use Rattle.std.specs.Prelude.{◌≡◌, List, ◌++◌, length, ℕ}
use Rattle.algebra.specs.SeriesRing.{S4}
use Rattle.field.specs.Prime.{Prime}
use Rattle.field.specs.Moduli.{Listed}
use Rattle.field.specs.Modulus.Laws.{listed_prime}
use Rattle.field.specs.Modulo.{Modulo}
use Rattle.field.specs.Numbers.{DOES_NOT_DIVIDE}
use Rattle.field.specs.Refusal.{Line, fault, none, Refuses, Passes}
use Rattle.field.specs.declared.faults.Fault.{Fault}
use Rattle.poly.specs.Keys.{keys}
use Rattle.poly.specs.Terms.{poly}
use Rattle.poly.specs.Divides.{Divides}
use Rattle.poly.specs.Lists.{WrongModulo, of_lists}
use Rattle.field.specs.Lent.{written}
use Rattle.poly.specs.Room.{of_rooms, cleared}

-- What the service tells: a fault, and how many terms the quotient has.
pub record QuotientRecord : Type 0 where
  pub fault : Fault
  pub terms : ℕ

-- told of a refusal
abbrev pub refused_quotient : Fault → QuotientRecord
refused_quotient f = record { fault = f; terms = 0 }

-- told of a quotient
abbrev pub found_quotient : ℕ → QuotientRecord
found_quotient n = record { fault = none; terms = n }

-- what the service is lent
pub record QuotientCall : Type 0 where
  pub modulus : ℕ
  pub first_list : List ℕ
  pub second_list : List ℕ
  pub output : List ℕ
  pub work : List ℕ

-- a call by its parts
abbrev pub quotient_call : ℕ → List ℕ → List ℕ → List ℕ → List ℕ → QuotientCall
quotient_call p A B output work = record { modulus = p; first_list = A; second_list = B; output = output; work = work }

-- the refusals of the inputs, tested in this order; a quotient has at most as many terms as there are keys
abbrev pub quotient_table : QuotientCall → List Line
quotient_table c =
    of_lists c.modulus c.first_list c.second_list ++ of_rooms (length c.output) keys (length c.work)

-- the list qs is A over B, exactly: none of its terms is wrong, and B times it is A, as polynomials
pub record IsQuotient (p : ℕ) (P : Prime p) (A B qs : List ℕ) : Type 0 where
  pub right : (i : ℕ) → ¬ WrongModulo p qs i
  pub product : (S4 (Modulo p P).ring).mul (poly p P B) (poly p P qs) ≡ poly p P A

-- what it answers, and the output and the work room afterwards
pub record QuotientResult : Type 0 where
  pub found : QuotientRecord
  pub output : List ℕ
  pub work : List ℕ

abbrev pub quotient_result : QuotientRecord → List ℕ → List ℕ → QuotientResult
quotient_result found output work = record { found = found; output = output; work = work }

-- the promise of the quotient service
pub data Quotient (c : QuotientCall) : QuotientResult → Type 0 where
  refused : (f : Fault) → Refuses (quotient_table c) f
      → Quotient c (quotient_result (refused_quotient f) c.output c.work)
  no_quotient : Passes (quotient_table c) → (listed : Listed c.modulus)
      → ¬ Divides (Modulo c.modulus (listed_prime listed)) (poly c.modulus (listed_prime listed) c.second_list)
      (poly c.modulus (listed_prime listed) c.first_list)
      → Quotient c (quotient_result (refused_quotient (fault DOES_NOT_DIVIDE 0)) c.output (cleared c.work))
  quotient : Passes (quotient_table c) → (listed : Listed c.modulus) (qs : List ℕ)
      → IsQuotient c.modulus (listed_prime listed) c.first_list c.second_list qs
      → Quotient c (quotient_result (found_quotient (length qs)) (written qs c.output) (cleared c.work))
