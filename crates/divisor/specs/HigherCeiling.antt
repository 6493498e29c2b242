-- The ceiling on the steps of division: stated over calls that are alike but for it.
use Rattle.std.specs.Prelude.{◌≡◌, ℕ, ◌≤◌}
use Rattle.field.specs.Numbers.{CEILING_REACHED}
use Rattle.divisor.specs.Candidate.{Call, candidate_call, most_steps, Result, Candidate}

-- what a service promises under each ceiling, and the number of a result
module _ {Result : Type 0} (Promise : ℕ → Result → Type 0) (number : Result → ℕ) where
  -- With a higher ceiling any answer other than 18 is unchanged: all of the result, the steps too.
  abbrev pub HigherChangesNothing : Type 0
  HigherChangesNothing = (low high : ℕ) → low ≤ high → (r r' : Result) → Promise low r → Promise high r' → ¬ (number r ≡ CEILING_REACHED) → r' ≡ r

  -- With a ceiling of 8,192 or more 18 never comes.
  abbrev pub NeverReached : Type 0
  NeverReached = (ceiling : ℕ) → most_steps ≤ ceiling → (r : Result) → Promise ceiling r → ¬ (number r ≡ CEILING_REACHED)

-- a call with another ceiling
abbrev pub with_ceiling : Call → ℕ → Call
with_ceiling c ceiling =
    candidate_call c.modulus c.first_list c.second_list c.skeleton c.points ceiling c.output c.work

-- what the candidate promises under each ceiling
abbrev pub CandidateUnder : Call → ℕ → Result → Type 0
CandidateUnder c ceiling = Candidate (with_ceiling c ceiling)

-- No more steps are taken than the ceiling allows, and with 18 as many.
pub record StepsWithin (c : Call) (r : Result) : Type 0 where
  pub within : r.found.steps ≤ c.ceiling
  pub reached : r.found.fault.number ≡ CEILING_REACHED → r.found.steps ≡ c.ceiling
