-- `divisor::equations::add_equations` meets its contract: no equation is added at first, and one more in a turn.
use Rattle.divisor.specs.Equations.Adding.{adds_first_none, adds_first_next, step_ready}
use Rattle.divisor.proofs.equations.add_equations.Goals as goal

pub loop-k-init : goal.loop-k-init
loop-k-init c = adds_first_none

pub add_equation-requires : goal.add_equation-requires
add_equation-requires c = step_ready c.requires c.loop-k.invariant c.equation_at-e.ensures

pub loop-k-preserved : goal.loop-k-preserved
loop-k-preserved c = adds_first_next c.loop-k.invariant c.equation_at-e.ensures c.add_equation.ensures
