-- With a higher ceiling any answer other than 18 is unchanged; with 8,192 or more 18 never comes; no more steps are taken than the ceiling allows.
use Rattle.std.specs.Prelude.{◌≡◌, refl, List, ◌∷◌, ℕ, ◌≤◌, ◌<◌}
use Rattle.std.proofs.Common.{arith}
use Rattle.algebra.specs.Field.{Field}
use Rattle.algebra.specs.Four.{Exponents}
use Rattle.field.specs.Numbers.{CEILING_REACHED}
use Rattle.field.specs.Refusal.{Refuses}
use Rattle.field.specs.declared.faults.Fault.{Fault}
use Rattle.field.specs.Faults.Laws.{refuses_below}
use Rattle.poly.specs.Terms.{Polynomial}
use Rattle.poly.specs.PointValue.{Point}
use Rattle.divisor.specs.declared.CandidateRecord.{CandidateRecord}
use Rattle.divisor.specs.Rule.{Kept, divisor, Tried, cut_off, rejected, accepted, Verdict, unsolvable, several, divided, RuleAnswer, all_bad, some_good}
use Rattle.divisor.specs.Candidate.{Call, most_steps, table, Numbers, A, B, monomials, lent_points, Result, Candidate, refused, answered}
use Rattle.divisor.specs.HigherCeiling.{HigherChangesNothing, NeverReached, with_ceiling, CandidateUnder, StepsWithin}
use Rattle.divisor.specs.Answer.Determined.{steps_determined, tried_reached, tried_within}
use Rattle.divisor.specs.Answer.CandidateDetermined.{candidate_determined}
use Rattle.divisor.specs.Ceiling.Steps.{divisor_steps}

module _ (K : Field) (A B : Polynomial K) (low high : ℕ) (l : low ≤ high) where
  tried_higher : (G H : Polynomial K) (n m : ℕ) → Tried K A B G low n H m → ¬ (n ≡ CEILING_REACHED) → Tried K A B G high n H m
  tried_higher G H n m (cut_off k t c) x = absurd (x refl)
  tried_higher G H n m (rejected k t c d) x = rejected k t (omega arith) d
  tried_higher G H n m (accepted k t c d) x = accepted k t (omega arith) d

  verdict_higher : (monomials : List Exponents) (kept : List (Kept K)) (H : Polynomial K) (n m : ℕ) → Verdict K A B monomials kept low n H m
      → ¬ (n ≡ CEILING_REACHED) → Verdict K A B monomials kept high n H m
  verdict_higher monomials kept H n m (unsolvable z) x = unsolvable z
  verdict_higher monomials kept H n m (several z) x = several z
  verdict_higher monomials kept H n m (divided s only t) x = divided s only (tried_higher (divisor K s) H n m t x)

  pub answer_higher : (monomials : List Exponents) (points : List (Point K.ring)) (r : CandidateRecord) (G : Polynomial K)
      → RuleAnswer K A B monomials points low r G → ¬ (r.fault.number ≡ CEILING_REACHED) → RuleAnswer K A B monomials points high r G
  answer_higher monomials points r G (all_bad h) x = all_bad h
  answer_higher monomials points r G (some_good d b u k kept s n H m v) x =
      some_good d b u k kept s n H m (verdict_higher monomials (k ∷ kept) H n m v x)

result_higher : (c : Call) (ceiling : ℕ) → c.ceiling ≤ ceiling → (r : Result) → Candidate c r → ¬ (r.found.fault.number ≡ CEILING_REACHED)
    → Candidate (with_ceiling c ceiling) r
result_higher c ceiling l r (refused f h) x = refused f h
result_higher c ceiling l r (answered pass listed f G a) x =
    answered pass listed f G
    (answer_higher (Numbers c listed) (A c listed) (B c listed) c.ceiling ceiling l (monomials c listed) (lent_points c listed) f G a x)

-- A HIGHER CEILING
pub higher_changes_nothing : (c : Call) → HigherChangesNothing (CandidateUnder c) (λ r. r.found.fault.number)
higher_changes_nothing c low high l r r' meets meets' x =
    candidate_determined (with_ceiling c high) r' r meets' (result_higher (with_ceiling c low) high l r meets x)

-- a refusal by the table is not 18
table_below : (c : Call) (f : Fault) → Refuses (table c) f → f.number < CEILING_REACHED
table_below c f h = refuses_below CEILING_REACHED (table c) tt f h

-- a ceiling of 8,192 is not reached
pub never_cut_off : (c : Call) → most_steps ≤ c.ceiling → (r : Result) → Candidate c r → ¬ (r.found.fault.number ≡ CEILING_REACHED)
never_cut_off c l r (refused f h) e = let b = table_below c f h in omega arith
never_cut_off c l r (answered pass listed f G (all_bad h)) e = omega arith
never_cut_off c l r (answered pass listed f G (some_good d b u k kept s n H m (unsolvable z))) e = omega arith
never_cut_off c l r (answered pass listed f G (some_good d b u k kept s n H m (several z))) e = omega arith
never_cut_off c l r (answered pass listed f G (some_good d b u k kept sorted n H m (divided s only tried))) e =
    let reached = tried_reached (Numbers c listed) (A c listed) (B c listed) (divisor (Numbers c listed) s) c.ceiling n m H tried e in
    let found = divisor_steps c pass listed (record { d = d; bad = b; unlucky = u; first = k; others = kept; sorted = sorted }) s only.0 in
    let q = steps_determined (Numbers c listed) (A c listed) (B c listed) (divisor (Numbers c listed) s) reached.0 found.steps reached.1 found.takes in
    let w = found.few in
    omega arith

-- 18 IS NEVER REACHED
pub never_reached : (c : Call) → NeverReached (CandidateUnder c) (λ r. r.found.fault.number)
never_reached c ceiling l r meets = never_cut_off (with_ceiling c ceiling) l r meets

-- STEPS WITHIN THE CEILING
pub steps_within : (c : Call) (r : Result) → Candidate c r → StepsWithin c r
steps_within c r (refused f h) = record { within = omega arith; reached = λ e. absurd (let b = table_below c f h in omega arith) }
steps_within c r (answered pass listed f G (all_bad h)) = record { within = omega arith; reached = λ e. absurd (omega arith) }
steps_within c r (answered pass listed f G (some_good d b u k kept s n H m (unsolvable z))) =
    record { within = omega arith; reached = λ e. absurd (omega arith) }
steps_within c r (answered pass listed f G (some_good d b u k kept s n H m (several z))) =
    record { within = omega arith; reached = λ e. absurd (omega arith) }
steps_within c r (answered pass listed f G (some_good d b u k kept sorted n H m (divided s only tried))) =
    let t = tried_within (Numbers c listed) (A c listed) (B c listed) (divisor (Numbers c listed) s) c.ceiling n m H tried in
    record { within = t.0; reached = t.1 }
