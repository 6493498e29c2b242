-- What a designer means by cancelled, stated over the promise of the key alone: what was struck out, that the transfer function is the same, and that
-- nothing is left to be struck out that contains x. What the number c is. And that the key strikes out what the candidate finds, stated over the
-- promises of two calls.
use Rattle.std.specs.Prelude.{◌≡◌, List, take, ℕ}
use Rattle.algebra.specs.SeriesRing.{S4}
use Rattle.field.specs.Moduli.{Listed}
use Rattle.field.specs.Modulus.Laws.{listed_prime}
use Rattle.field.specs.Refusal.{Passes}
use Rattle.poly.specs.Terms.{Polynomial, terms_of, poly}
use Rattle.poly.specs.Divides.{Divides}
use Rattle.divisor.specs.declared.CandidateRecord.{CandidateRecord}
use Rattle.divisor.specs.Candidate.{table, handed_out, Result, Candidate}
use Rattle.divisor.specs.Demands.{DegreeX, IsPolynomial, GreatestInX, LeadsWith}
use Rattle.cancel.specs.CancelCall.{CancelCall, cancel_table, divisor_call, Numbers, Finds, Reduced, CancelResult, with_both, Cancel}

-- N' and D' as they are handed out: the terms first in each output
abbrev pub reduced_numerator : CancelResult → List ℕ
reduced_numerator r = take r.found.numerator r.numerator_output

abbrev pub reduced_denominator : CancelResult → List ℕ
reduced_denominator r = take r.found.denominator r.denominator_output

module _ (c : CancelCall) (listed : Listed c.modulus) where
  -- the polynomial that a list of terms is
  abbrev pub meant : List ℕ → (S4 (Numbers c listed).ring).Car
  meant terms = poly c.modulus (listed_prime listed) terms

  -- G, which divides N and D, has the degree d in x, and no common divisor has a higher one; and N' and D' are N and D without it
  pub record StruckOut (r : CancelResult) (G : Polynomial (Numbers c listed)) : Type 0 where
    pub greatest : GreatestInX (Numbers c listed) (terms_of c.modulus (listed_prime listed) c.numerator)
        (terms_of c.modulus (listed_prime listed) c.denominator) G r.found.degree
    pub reduced : Reduced c.modulus (listed_prime listed) c.numerator c.denominator G (reduced_numerator r) (reduced_denominator r)

  -- N D' = D N'
  abbrev pub Same : CancelResult → Type 0
  Same r = (S4 (Numbers c listed).ring).mul (meant c.numerator) (meant (reduced_denominator r))
      ≡ (S4 (Numbers c listed).ring).mul (meant c.denominator) (meant (reduced_numerator r))

  -- no common divisor of N' and D', of whatever exponents, contains x
  abbrev pub NoneWithX : CancelResult → Type 0
  NoneWithX r = (H : (S4 (Numbers c listed).ring).Car) → IsPolynomial (Numbers c listed) H
      → Divides (Numbers c listed) H (meant (reduced_numerator r)) → Divides (Numbers c listed) H (meant (reduced_denominator r))
      → (h : ℕ) → DegreeX (Numbers c listed) h H → h ≡ 0

-- Where the number is 0, a common divisor of the highest degree in x is struck out.
abbrev pub GreatestStruckOut : CancelCall → CancelResult → Type 0
GreatestStruckOut c r = r.found.fault.number ≡ 0
    → (listed : Listed c.modulus) × (G : Polynomial (Numbers c listed)) × StruckOut c listed r G

-- Where the number is 0, the transfer function is the same.
abbrev pub SameFunction : CancelCall → CancelResult → Type 0
SameFunction c r = r.found.fault.number ≡ 0 → (listed : Listed c.modulus) × Same c listed r

-- Where the number is 0, N' and D' have no common divisor that contains x.
abbrev pub NothingLeft : CancelCall → CancelResult → Type 0
NothingLeft c r = r.found.fault.number ≡ 0 → (listed : Listed c.modulus) × NoneWithX c listed r

-- The number c is D's leading coefficient: it is in every way to write N and D with the G that the candidate finds.
abbrev pub FactorIsLeading : CancelCall → Type 0
FactorIsLeading c = Passes (cancel_table c) → (listed : Listed c.modulus) (found : CandidateRecord) (G : Polynomial (Numbers c listed))
    → Finds c listed found G → found.fault.number ≡ 0
    → (ns ds : List ℕ) (r : Reduced c.modulus (listed_prime listed) c.numerator c.denominator G ns ds)
    → LeadsWith (Numbers c listed) r.factor (terms_of c.modulus (listed_prime listed) c.denominator)

-- The key's result r and the candidate's result q, to the same inputs: the same record but for the counts of terms, and the same work room; and where
-- the number is 0, N' and D' are N and D without the polynomial that the candidate hands out.
pub record AsCandidate (c : CancelCall) (output : List ℕ) (r : CancelResult) (q : Result) : Type 0 where
  pub told : r.found ≡ with_both q.found r.found.numerator r.found.denominator
  pub same_work : r.work ≡ q.work
  pub divided : r.found.fault.number ≡ 0
      → (listed : Listed c.modulus) × StruckOut c listed r (handed_out (divisor_call c output) listed q)

-- Where the inputs pass both tables, the key strikes out what the candidate finds.
abbrev pub StrikesOutCandidate : CancelCall → Type 0
StrikesOutCandidate c = (output : List ℕ) → Passes (cancel_table c) → Passes (table (divisor_call c output))
    → (r : CancelResult) (q : Result) → Cancel c r → Candidate (divisor_call c output) q → AsCandidate c output r q
