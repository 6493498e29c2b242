-- Swapping A and B: stated over two calls that are alike but for the order of the two lists.
use Rattle.std.specs.Prelude.{◌≡◌, ℕ, ◌≤◌}
use Rattle.field.specs.Numbers.{DOES_NOT_DIVIDE, CEILING_REACHED}
use Rattle.field.specs.Refusal.{fault, Passes}
use Rattle.poly.specs.Lists.{of_lists}
use Rattle.divisor.specs.declared.CandidateRecord.{CandidateRecord}
use Rattle.divisor.specs.Candidate.{Call, candidate_call, Result, Candidate}

-- the second call
abbrev pub swapped : Call → Call
swapped c = candidate_call c.modulus c.second_list c.first_list c.skeleton c.points c.ceiling c.output c.work

-- the number and the steps where G is not accepted: 15 after no more steps than the ceiling, or 18 after as many
pub data NotAccepted (ceiling : ℕ) : ℕ → ℕ → Type 0 where
  does_not_divide : (steps : ℕ) → steps ≤ ceiling → NotAccepted ceiling DOES_NOT_DIVIDE steps
  ceiling_reached : NotAccepted ceiling CEILING_REACHED ceiling

-- what is told, with another number and other steps
abbrev pub told_otherwise : CandidateRecord → ℕ → ℕ → CandidateRecord
told_otherwise r number steps = record {
  fault = fault number 0;
  degree = r.degree;
  bad = r.bad;
  unlucky = r.unlucky;
  kept = r.kept;
  terms = r.terms;
  steps = steps;
}

-- What the second call tells: the same as the first; or, where the first says 15 or 18, one of the two, and all but this number and the steps is the same.
pub data ToldAlike (ceiling : ℕ) (r : CandidateRecord) : CandidateRecord → Type 0 where
  same : ToldAlike ceiling r r
  not_accepted : NotAccepted ceiling r.fault.number r.steps → (number steps : ℕ) → NotAccepted ceiling number steps
      → ToldAlike ceiling r (told_otherwise r number steps)

-- the results of the two calls
pub record SwappedAlike (ceiling : ℕ) (r r' : Result) : Type 0 where
  pub found : ToldAlike ceiling r.found r'.found
  pub same_output : r'.output ≡ r.output
  pub same_work : r'.work ≡ r.work

-- Where both lists pass the lines 1 to 5, the two calls have the same record but for the steps of a 15 or 18 and which of the two comes, the same output
-- and the same work room, whatever skeleton, points and rooms are: also where a later line refuses. (Where a list is refused, the number says which, and
-- so changes.)
abbrev pub SwapKeeps : Call → Type 0
SwapKeeps c =
    Passes (of_lists c.modulus c.first_list c.second_list)
    → (r r' : Result) → Candidate c r → Candidate (swapped c) r' → SwappedAlike c.ceiling r r'

-- So, where the first call says neither 15 nor 18, swapping changes nothing.
abbrev pub SwapChangesNothing : Call → Type 0
SwapChangesNothing c =
    Passes (of_lists c.modulus c.first_list c.second_list)
    → (r r' : Result) → Candidate c r → Candidate (swapped c) r'
    → ¬ (r.found.fault.number ≡ DOES_NOT_DIVIDE) → ¬ (r.found.fault.number ≡ CEILING_REACHED) → r' ≡ r
