-- What follows from the promise of the key: what is struck out, that the transfer function is the same, that nothing with x is left, what c is, and that
-- it is the candidate's polynomial that is struck out.
use Rattle.std.specs.Prelude.{◌≡◌, refl, List, [], length, take, drop, ℕ}
use Rattle.std.proofs.Common.{sym, ap, subst, take_at}
use Rattle.algebra.specs.Monomial.{polynomial}
use Rattle.field.specs.Fp.{Fp, el}
use Rattle.field.specs.Moduli.{Listed}
use Rattle.field.specs.Modulus.Laws.{listed_prime}
use Rattle.field.specs.Lent.{written}
use Rattle.field.specs.Refusal.{Passes}
use Rattle.field.specs.Faults.Laws.{refuses_numbered, not_passes_and_refuses}
use Rattle.poly.specs.Terms.{Polynomial, terms_of, poly}
use Rattle.poly.specs.Room.{cleared}
use Rattle.poly.specs.List.Laws.{falling_bounded}
use Rattle.divisor.specs.declared.CandidateRecord.{CandidateRecord}
use Rattle.divisor.specs.Candidate.{A, B, monomials, lent_points, table, refused as refused_candidate, answered}
use Rattle.divisor.specs.Demands.{GreatestInX, LeadsWith}
use Rattle.divisor.specs.Answer.Accepted.{accepted_list}
use Rattle.divisor.specs.Demand.Degree.{accepted_greatest}
use Rattle.divisor.specs.Verdict.Output.{answered_output}
use Rattle.cancel.specs.CancelCall.{CancelCall, cancel_table, divisor_call, Numbers, Finds, Reduced, CancelResult, cancel_result, with_both, Cancel}
use Rattle.cancel.specs.CancelCall.{refused, no_divisor, cancelled}
use Rattle.cancel.specs.Cancelled.{StruckOut, GreatestStruckOut, SameFunction, NothingLeft, FactorIsLeading, StrikesOutCandidate, meant}
use Rattle.cancel.specs.Cancelled.{reduced_numerator, reduced_denominator}
use Rattle.cancel.specs.Cancelling.Tables.{right_lists, candidate_passes}
use Rattle.cancel.specs.Cancelling.Lists.{leads_by, accepted_leads, leads_with_first, leads_by_first, right_falls}
use Rattle.cancel.specs.Cancelling.Products.{factor_leads, crosswise, none_left}
use Rattle.cancel.specs.Cancelling.Determined.{same_record, same_divisor}

module _ (c : CancelCall) where
  -- what is written first can be read there
  read_first : (ns out : List ℕ) → ns ≡ take (length ns) (written ns out)
  read_first ns out = sym (take_at ns (drop (length ns) out) (length ns) refl)

  -- the result with N' and D'
  abbrev handed : CandidateRecord → List ℕ → List ℕ → CancelResult
  handed found ns ds =
      cancel_result (with_both found (length ns) (length ds)) (written ns c.numerator_output) (written ds c.denominator_output) (cleared c.work)

  -- an accepted G is a common divisor of the highest degree in x
  module _ (pass : Passes (cancel_table c)) (listed : Listed c.modulus) (found : CandidateRecord) (G : Polynomial (Numbers c listed))
      (answer : Finds c listed found G) (accepted : found.fault.number ≡ 0) where
    pub accepted_divisor : GreatestInX (Numbers c listed) (A (divisor_call c []) listed) (B (divisor_call c []) listed) G found.degree
    accepted_divisor =
        let d = divisor_call c [] in
        let right = right_lists c pass in
        accepted_greatest (Numbers c listed) (A d listed) (B d listed) (monomials d listed) (lent_points d listed) c.ceiling
        (falling_bounded c.modulus (listed_prime listed) c.numerator right.first.falls)
        (falling_bounded c.modulus (listed_prime listed) c.denominator right.second.falls) found G answer accepted

    -- it is what is struck out
    struck_out : (ns ds : List ℕ) → Reduced c.modulus (listed_prime listed) c.numerator c.denominator G ns ds
        → StruckOut c listed (handed found ns ds) G
    struck_out ns ds a = record {
      greatest = accepted_divisor;
      reduced =
          subst (λ (l : List ℕ). Reduced c.modulus (listed_prime listed) c.numerator c.denominator G l (reduced_denominator (handed found ns ds)))
          (read_first ns c.numerator_output)
          (subst (λ (l : List ℕ). Reduced c.modulus (listed_prime listed) c.numerator c.denominator G ns l)
          (read_first ds c.denominator_output) a);
    }

  pub greatest_struck_out : (r : CancelResult) → Cancel c r → GreatestStruckOut c r
  greatest_struck_out r (refused f h) e = absurd (refuses_numbered (cancel_table c) tt f h e)
  greatest_struck_out r (no_divisor pass listed f G x n) e = absurd (n e)
  greatest_struck_out r (cancelled pass listed f G x z ns ds a) e = (listed, G, struck_out pass listed f G x z ns ds a)

  pub same_function : (r : CancelResult) → Cancel c r → SameFunction c r
  same_function r meets e =
      let s = greatest_struck_out r meets e in
      let l = s.0 in
      let a = s.2.reduced in (
        l,
        crosswise (Numbers c l) (polynomial (Numbers c l).ring s.1) (meant c l (reduced_numerator r)) (meant c l (reduced_denominator r)) a.factor
            (meant c l c.numerator) (meant c l c.denominator) a.numerator a.denominator,
      )

  pub nothing_left : (r : CancelResult) → Cancel c r → NothingLeft c r
  nothing_left r meets e =
      let s = greatest_struck_out r meets e in
      let l = s.0 in
      let a = s.2.reduced in (
        l,
        none_left (Numbers c l) (terms_of c.modulus (listed_prime l) c.numerator) (terms_of c.modulus (listed_prime l) c.denominator) s.1
            r.found.degree s.2.greatest (meant c l (reduced_numerator r)) (meant c l (reduced_denominator r)) a.factor a.numerator
            a.denominator,
      )

  -- c is D's leading coefficient
  pub factor_is_leading : FactorIsLeading c
  factor_is_leading pass listed found G x z ns ds r =
      let p = c.modulus in
      let P = listed_prime listed in
      let D = (right_lists c pass).second in
      let list = accepted_list (divisor_call c c.numerator_output) (candidate_passes c pass) listed found G x z in
      subst (λ (a : Fp c.modulus). LeadsWith (Numbers c listed) a (terms_of c.modulus (listed_prime listed) c.denominator))
      (factor_leads (Numbers c listed) (polynomial (Numbers c listed).ring G) (poly p P ds) (poly p P c.denominator) r.factor _
      (accepted_leads p P (length c.skeleton) G list) (leads_by p P (el p 1) ds (right_falls p P ds r.denominator_right) r.monic)
      (leads_by_first p P c.denominator D.some D.falls) r.denominator)
      (leads_with_first p P c.denominator D.some)

  -- the key strikes out what the candidate finds
  pub strikes_out_candidate : StrikesOutCandidate c
  strikes_out_candidate output pass passes r q (refused f h) meets = absurd (not_passes_and_refuses (cancel_table c) f pass h)
  strikes_out_candidate output pass passes r q (no_divisor _ listed f G x n) (refused_candidate g k) =
      absurd (not_passes_and_refuses (table (divisor_call c output)) g passes k)
  strikes_out_candidate output pass passes r q (no_divisor _ listed f G x n) (answered _ listed' g H y) =
      let e = same_record c listed listed' f g G H x y in
      record { told = ap (λ (s : CandidateRecord). with_both s 0 0) e; same_work = refl; divided = λ z. absurd (n z) }
  strikes_out_candidate output pass passes r q (cancelled _ listed f G x z ns ds a) (refused_candidate g k) =
      absurd (not_passes_and_refuses (table (divisor_call c output)) g passes k)
  strikes_out_candidate output pass passes r q (cancelled pass' listed f G x z ns ds a) (answered _ listed' g H y) =
      record {
        told = ap (λ (s : CandidateRecord). with_both s (length ns) (length ds)) (same_record c listed listed' f g G H x y);
        same_work = refl;
        divided = λ e. (
          listed',
          subst (StruckOut c listed' r) (sym (answered_output (divisor_call c output) listed' g H y))
              (same_divisor c listed listed' f g G H x y (λ l I. StruckOut c l r I) (struck_out pass' listed f G x z ns ds a)),
        );
      }
