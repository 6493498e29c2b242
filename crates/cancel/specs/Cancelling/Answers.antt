-- From what the candidate leaves to the promise of the key: its refusal passed on, or N' and D' by two quotients.
use Rattle.std.specs.Prelude.{◌≡◌, refl, List, ◌++◌, ℕ, ◌≤◌, length, take, drop}
use Rattle.std.proofs.Common.{sym, ◌∙◌, ap, subst, append_assoc, arith, length-append, take_at}
use Rattle.field.specs.Moduli.{Listed}
use Rattle.field.specs.Modulus.Laws.{listed_prime, listed_positive}
use Rattle.field.specs.Lent.{written}
use Rattle.field.specs.Refusal.{Passes}
use Rattle.field.specs.Faults.Laws.{refuses_numbered}
use Rattle.poly.specs.Terms.{Polynomial, numbers_of}
use Rattle.poly.specs.Room.{cleared}
use Rattle.poly.specs.QuotientCall.{quotient_call, quotient_result, Quotient}
use Rattle.divisor.specs.Candidate.{most_keys, table, Result, Candidate, refused as refused_candidate, answered}
use Rattle.divisor.specs.Verdict.Output.{length_numbers, answer_counts}
use Rattle.cancel.specs.declared.CancelRecord.{CancelRecord}
use Rattle.cancel.specs.CancelCall.{CancelCall, cancel_table, divisor_call, Numbers, Finds, cancel_result, with_both, Cancel}
use Rattle.cancel.specs.CancelCall.{refused, no_divisor}
use Rattle.cancel.specs.Cancelling.Model.{RoomFor, none_lent, enough, CanReduce, scaled_divisor, TwoQuotients}
use Rattle.cancel.specs.Cancelling.Tables.{Lent, right_lists, refused_too, passed_too}
use Rattle.cancel.specs.Cancelling.Reducing.{both_divided}

-- no more room is lent than the divisor needs
pub room_most : (numerator denominator room : ℕ) → RoomFor numerator denominator room → room ≤ most_keys
room_most numerator denominator room (none_lent s) = omega arith
room_most numerator denominator room (enough n d) = omega arith

-- what the candidate's result is where its number is 0
pub record Accepted (c : CancelCall) (output : List ℕ) (q : Result) : Type 0 where
  pub passed : Passes (table (divisor_call c output))
  pub listed : Listed c.modulus
  pub G : Polynomial (Numbers c listed)
  pub answer : Finds c listed q.found G
  pub writes : q.output ≡ written (numbers_of c.modulus (listed_prime listed) G) output
  pub clears : q.work ≡ cleared c.work

pub accepted_so : (c : CancelCall) (output : List ℕ) (q : Result) → Candidate (divisor_call c output) q → q.found.fault.number ≡ 0 → Accepted c output q
accepted_so c output q (refused_candidate f h) e = absurd (refuses_numbered (table (divisor_call c output)) tt f h e)
accepted_so c output q (answered pass listed f G x) e =
    record { passed = pass; listed = listed; G = G; answer = x; writes = refl; clears = refl }

module _ (c : CancelCall) (output : List ℕ) (lent : Lent c (length output)) where
  -- a refusal of the candidate is the key's
  pub passed_on : (q : Result) → Candidate (divisor_call c output) q → ¬ (q.found.fault.number ≡ 0)
      → Cancel c (cancel_result (with_both q.found 0 0) c.numerator_output c.denominator_output q.work)
  passed_on q (refused_candidate f h) n = refused f (refused_too c output lent f h)
  passed_on q (answered pass listed f G x) n = no_divisor (passed_too c output lent pass) listed f G x n

  module _ (q : Result) (meets : Candidate (divisor_call c output) q) (accepted : q.found.fault.number ≡ 0) where
    abbrev is : Accepted c output q
    is = accepted_so c output q meets accepted

    abbrev pass : Passes (cancel_table c)
    pass = passed_too c output lent is.passed

    -- G's list
    abbrev list : List ℕ
    list = numbers_of c.modulus (listed_prime is.listed) is.G

    counted : length list ≡ q.found.terms
    counted =
        length_numbers c.modulus (listed_prime is.listed) is.G
        ∙ sym (answer_counts (divisor_call c output) is.listed q.found is.G is.answer).1

    pub terms_fit : (tail : List ℕ) → q.found.terms ≤ length (q.output ++ tail)
    terms_fit tail =
        omega (arith, counted, length-append q.output tail, ap length is.writes, length-append list (drop (length list) output))

    pub can_reduce : CanReduce c.modulus c.denominator
    can_reduce = record { positive = listed_positive is.listed; some = (right_lists c pass).second.some }

    -- the terms first in the candidate's output are G's list
    first_terms : (tail : List ℕ) → take q.found.terms (q.output ++ tail) ≡ list
    first_terms tail =
        ap (λ (l : List ℕ). take q.found.terms (l ++ tail)) is.writes
        ∙ ap (take q.found.terms) (append_assoc list (drop (length list) output) tail)
        ∙ take_at list (drop (length list) output ++ tail) q.found.terms counted

    pub reduced_so : (tail divisor' numerator' denominator' work' : List ℕ) (r : CancelRecord)
        → TwoQuotients c.modulus c.numerator c.denominator (take q.found.terms (q.output ++ tail)) divisor'
        c.numerator_output numerator' c.denominator_output denominator' q.work work' q.found r
        → Cancel c (cancel_result r numerator' denominator' work')
    reduced_so tail divisor' numerator' denominator' work' r h =
        let by = h.changed ∙ ap (scaled_divisor c.modulus c.denominator) (first_terms tail) in
        subst (λ (s : CancelRecord). Cancel c (cancel_result s numerator' denominator' work')) (sym h.told)
        (both_divided c output is.passed pass is.listed q.found is.G is.answer accepted h.first h.second
        numerator' denominator' h.between work'
        (subst (λ (w : List ℕ). Quotient (quotient_call c.modulus c.numerator (scaled_divisor c.modulus c.denominator list) c.numerator_output w)
        (quotient_result h.first numerator' h.between)) is.clears
        (subst (λ (d : List ℕ). Quotient (quotient_call c.modulus c.numerator d c.numerator_output q.work)
        (quotient_result h.first numerator' h.between)) by h.of_numerator))
        (subst (λ (d : List ℕ). Quotient (quotient_call c.modulus c.denominator d c.denominator_output h.between)
        (quotient_result h.second denominator' work')) by h.of_denominator))
