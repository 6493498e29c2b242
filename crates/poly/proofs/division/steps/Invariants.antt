-- Of the steps: what is left of the division, from the cell k down, ends as the whole does, and no more steps are taken than the ceiling;
-- of the search: the cells passed are 0. Both measures are k.
use Rattle.std.proofs.Common.{◌≡◌, List, ℕ, ◌≤◌}
use Rattle.field.specs.declared.elements.Element.{Element}
use Rattle.poly.specs.Division.Going.{left_of, Going}
use Rattle.poly.specs.Division.Model.{Setting}
use Rattle.poly.proofs.division.steps.Given as goal

abbrev pub setting : List ℕ → ℕ → Element → ℕ → Setting
setting divisor lead inverse bound =
    record { modulus = inverse.modulus; terms = divisor; lead = lead; inverse = inverse.value; bound = bound }

-- the search for the next leading term, from the cell first down to k
pub record Passing (d : Setting) (work : List ℕ) (first k : ℕ) : Type 0 where
  pub within : k ≤ first
  pub same : left_of d work first ≡ left_of d work k

-- the steps
pub record Stepping (d : Setting) (ceiling : ℕ) (before work : List ℕ) (k taken : ℕ) : Type 0 where
  pub within : taken ≤ ceiling
  pub going : Going d before work k taken

abbrev pub invariant-loop-k : goal.invariant-loop-k
invariant-loop-k l = Passing (setting l.divisor l.lead l.inverse l.bound.bits) l.work l.initial.k l.k

abbrev pub decreases-loop-k : goal.decreases-loop-k
decreases-loop-k l = l.k

abbrev pub invariant-steps : goal.invariant-steps
invariant-steps l = Stepping (setting l.divisor l.lead l.inverse l.bound.bits) l.ceiling l.initial.work l.work l.k l.taken

abbrev pub decreases-steps : goal.decreases-steps
decreases-steps l = l.k
