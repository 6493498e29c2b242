-- With a higher ceiling any answer of the key other than 18 is unchanged; with 8,192 or more 18 never comes.
use Rattle.std.specs.Prelude.{◌≡◌, [], ℕ, ◌≤◌}
use Rattle.std.proofs.Common.{arith}
use Rattle.field.specs.Moduli.{Listed}
use Rattle.field.specs.Numbers.{CEILING_REACHED}
use Rattle.field.specs.Faults.Laws.{refuses_below}
use Rattle.poly.specs.Terms.{Polynomial}
use Rattle.divisor.specs.declared.CandidateRecord.{CandidateRecord}
use Rattle.divisor.specs.Candidate.{A, B, monomials, lent_points, answered}
use Rattle.divisor.specs.HigherCeiling.{HigherChangesNothing, NeverReached}
use Rattle.divisor.specs.Ceiling.Calls.{answer_higher, never_cut_off}
use Rattle.cancel.specs.CancelCall.{CancelCall, cancel_table, divisor_call, Numbers, Finds, CancelResult, Cancel, refused, no_divisor, cancelled}
use Rattle.cancel.specs.CancelCeiling.{with_ceiling, CancelUnder}
use Rattle.cancel.specs.Cancelling.Tables.{candidate_passes}
use Rattle.cancel.specs.Cancelling.Determined.{cancel_determined}

-- what the candidate finds under one ceiling it finds under a higher one
finds_higher : (c : CancelCall) (ceiling : ℕ) → c.ceiling ≤ ceiling → (listed : Listed c.modulus) (f : CandidateRecord) (G : Polynomial (Numbers c listed))
    → Finds c listed f G → ¬ (f.fault.number ≡ CEILING_REACHED) → Finds (with_ceiling c ceiling) listed f G
finds_higher c ceiling l listed f G x n =
    let d = divisor_call c [] in
    answer_higher (Numbers c listed) (A d listed) (B d listed) c.ceiling ceiling l (monomials d listed) (lent_points d listed) f G x n

result_higher : (c : CancelCall) (ceiling : ℕ) → c.ceiling ≤ ceiling → (r : CancelResult) → Cancel c r → ¬ (r.found.fault.number ≡ CEILING_REACHED)
    → Cancel (with_ceiling c ceiling) r
result_higher c ceiling l r (refused f h) n = refused f h
result_higher c ceiling l r (no_divisor pass listed f G x m) n = no_divisor pass listed f G (finds_higher c ceiling l listed f G x n) m
result_higher c ceiling l r (cancelled pass listed f G x z ns ds a) n =
    cancelled pass listed f G (finds_higher c ceiling l listed f G x n) z ns ds a

-- A HIGHER CEILING
pub cancel_higher_changes_nothing : (c : CancelCall) → HigherChangesNothing (CancelUnder c) (λ r. r.found.fault.number)
cancel_higher_changes_nothing c low high l r r' meets meets' n =
    cancel_determined (with_ceiling c high) r' r meets' (result_higher (with_ceiling c low) high l r meets n)

-- 18 IS NEVER REACHED
pub cancel_never_reached : (c : CancelCall) → NeverReached (CancelUnder c) (λ r. r.found.fault.number)
cancel_never_reached c ceiling l r (refused f h) e =
    let b = refuses_below CEILING_REACHED (cancel_table (with_ceiling c ceiling)) tt f h in omega arith
cancel_never_reached c ceiling l r (no_divisor pass listed f G x n) e =
    let d = with_ceiling c ceiling in
    never_cut_off (divisor_call d c.numerator_output) l _ (answered (candidate_passes d pass) listed f G x) e
cancel_never_reached c ceiling l r (cancelled pass listed f G x z ns ds a) e = omega arith
