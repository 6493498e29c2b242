-- The promise of the key settles the record, both outputs and the work room: two results that meet it are equal. It refutes another list.
use Rattle.std.specs.Prelude.{◌≡◌, List, [], ℕ, length}
use Rattle.std.proofs.Common.{sym, ◌∙◌, ap, subst}
use Rattle.field.specs.Moduli.{Listed}
use Rattle.field.specs.Modulus.Laws.{listed_prime, listed_unique}
use Rattle.field.specs.Refusal.{Passes, RefutesAnotherList}
use Rattle.field.specs.Faults.Laws.{refuses_determined, refuses_names, not_passes_and_refuses}
use Rattle.field.specs.Lent.{written}
use Rattle.poly.specs.Terms.{Polynomial}
use Rattle.poly.specs.Room.{cleared}
use Rattle.divisor.specs.declared.CandidateRecord.{CandidateRecord}
use Rattle.divisor.specs.Candidate.{A, B, monomials, lent_points, refused_record}
use Rattle.divisor.specs.Answer.Determined.{answer_determined}
use Rattle.divisor.specs.Answer.CandidateDetermined.{answer_names}
use Rattle.cancel.specs.CancelCall.{CancelCall, cancel_table, divisor_call, Numbers, Finds, Reduced, CancelResult, cancel_result, with_both, Cancel}
use Rattle.cancel.specs.CancelCall.{refused, no_divisor, cancelled}
use Rattle.cancel.specs.Cancelling.Tables.{cancel_one_place, right_lists}
use Rattle.cancel.specs.Cancelling.Lists.{list_nonzero, reduced_unique}

module _ (c : CancelCall) where
  abbrev In : List ℕ → List ℕ → (l : Listed c.modulus) → Polynomial (Numbers c l) → Type 0
  In ns ds l G = Reduced c.modulus (listed_prime l) c.numerator c.denominator G ns ds

  answers_agree : (listed : Listed c.modulus) (f g : CandidateRecord) (G H : Polynomial (Numbers c listed))
      → Finds c listed f G → Finds c listed g H → (f ≡ g) × (G ≡ H)
  answers_agree listed f g G H x y =
      let d = divisor_call c [] in
      answer_determined (Numbers c listed) (A d listed) (B d listed) (monomials d listed) (lent_points d listed) c.ceiling f g G H x y

  -- the evidence that the modulus is listed does not matter
  module _ (listed listed' : Listed c.modulus) (f g : CandidateRecord) (G : Polynomial (Numbers c listed)) (H : Polynomial (Numbers c listed'))
      (x : Finds c listed f G) (y : Finds c listed' g H) where
    pub same_record : f ≡ g
    same_record =
        (subst (λ (l : Listed c.modulus). (I : Polynomial (Numbers c l)) → Finds c l g I → f ≡ g) (listed_unique _ listed listed')
        (λ I z. (answers_agree listed f g G I x z).0))
        H y

    -- what holds of one divisor, with its evidence, holds of the other
    pub same_divisor : (X : (l : Listed c.modulus) → Polynomial (Numbers c l) → Type 0) → X listed G → X listed' H
    same_divisor X z =
        (subst (λ (l : Listed c.modulus). (I : Polynomial (Numbers c l)) → Finds c l g I → X l I) (listed_unique _ listed listed')
        (λ I w. subst (X listed) (answers_agree listed f g G I x w).1 z))
        H y

    same_lists : Passes (cancel_table c) → (ns ds ns' ds' : List ℕ) → In ns ds listed G → In ns' ds' listed' H → (ns ≡ ns') × (ds ≡ ds')
    same_lists pass ns ds ns' ds' a b =
        let right = (right_lists c pass).second in
        reduced_unique c.modulus (listed_prime listed') c.numerator c.denominator H
        (list_nonzero c.modulus (listed_prime listed') c.denominator right.some right.falls) ns ds ns' ds' (same_divisor (In ns ds) a) b

  pub cancel_determined : (r s : CancelResult) → Cancel c r → Cancel c s → r ≡ s
  cancel_determined r s (refused f h) (refused g k) =
      let e = refuses_determined (cancel_table c) (cancel_one_place c) f g h k in
      λ i. cancel_result (with_both (refused_record (e i)) 0 0) c.numerator_output c.denominator_output c.work
  cancel_determined r s (refused f h) (no_divisor pass listed g H y n) = absurd (not_passes_and_refuses (cancel_table c) f pass h)
  cancel_determined r s (refused f h) (cancelled pass listed g H y z ns ds b) = absurd (not_passes_and_refuses (cancel_table c) f pass h)
  cancel_determined r s (no_divisor pass listed f G x n) (refused g k) = absurd (not_passes_and_refuses (cancel_table c) g pass k)
  cancel_determined r s (no_divisor pass listed f G x n) (no_divisor pass' listed' g H y m) =
      let e = same_record listed listed' f g G H x y in
      λ i. cancel_result (with_both (e i) 0 0) c.numerator_output c.denominator_output (cleared c.work)
  cancel_determined r s (no_divisor pass listed f G x n) (cancelled pass' listed' g H y z ns ds b) =
      absurd (n (ap (λ (q : CandidateRecord). q.fault.number) (same_record listed listed' f g G H x y) ∙ z))
  cancel_determined r s (cancelled pass listed f G x z ns ds a) (refused g k) = absurd (not_passes_and_refuses (cancel_table c) g pass k)
  cancel_determined r s (cancelled pass listed f G x z ns ds a) (no_divisor pass' listed' g H y m) =
      absurd (m (ap (λ (q : CandidateRecord). q.fault.number) (sym (same_record listed listed' f g G H x y)) ∙ z))
  cancel_determined r s (cancelled pass listed f G x z ns ds a) (cancelled pass' listed' g H y z' ns' ds' b) =
      let e = same_record listed listed' f g G H x y in
      let l = same_lists listed listed' f g G H x y pass ns ds ns' ds' a b in
      λ i. cancel_result (with_both (e i) (length (l.0 i)) (length (l.1 i))) (written (l.0 i) c.numerator_output)
      (written (l.1 i) c.denominator_output) (cleared c.work)

  pub cancel_another_list : RefutesAnotherList (λ r. r.found.fault) (Cancel c)
  cancel_another_list r other (refused f h) = other (refuses_names (cancel_table c) f h)
  cancel_another_list r other (no_divisor pass listed f G x n) = other (answer_names (divisor_call c []) listed f G x)
  cancel_another_list r other (cancelled pass listed f G x z ns ds a) = other (answer_names (divisor_call c []) listed f G x)
