-- `divisor::sorting::lesser` meets its contract: each arm is a case of the definition.
use Rattle.std.proofs.Common.{arith}
use Rattle.std.proofs.lemmas.Grind.{common_steps}
use Rattle.divisor.specs.Sorting.Model.{lesser}
use Rattle.divisor.proofs.sorting.lesser.Goals as goal

pub returns-in_default : goal.returns-in_default
unfolding lesser
returns-in_default c = grind (arith, common_steps)

pub returns-in_default-eq0 : goal.returns-in_default-eq0
unfolding lesser
returns-in_default-eq0 c = grind (arith, common_steps)

pub returns-in-0-default : goal.returns-in-0-default
unfolding lesser
returns-in-0-default c = grind (arith, common_steps)
