-- `divisor::sorting::least_size` meets its contract: how a loop that takes one element a turn goes on and ends.
use Rattle.field.specs.Loops.Fold.{folding_next, folding_end}
use Rattle.divisor.proofs.sorting.least_size.Goals as goal

pub loop-size-preserved : goal.loop-size-preserved
loop-size-preserved c = folding_next c.loop-size.invariant c.loop-size-test.true c.lesser-least.ensures

pub returns : goal.returns
returns c = folding_end c.loop-size.invariant c.loop-size-test.false
