-- `poly::euclid::scale` meets its contract: the loop fills the array, and finds each number as it was.
use Rattle.std.proofs.Common.{arith}
use Rattle.field.specs.Loops.Cells.{filled_end}
use Rattle.poly.specs.Euclid.Model.{scaled}
use Rattle.poly.proofs.euclid.scale.Goals as goal

pub returns : goal.returns
unfolding scaled
returns c = filled_end c.loop-n.invariant (omega arith)
