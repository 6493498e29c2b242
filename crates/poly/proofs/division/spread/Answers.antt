-- `poly::division::spread` meets its contract: what is left of the list, spread over the cells as they are, gives what the whole list gave.
use Rattle.std.proofs.Common.{ap₂, set, length-set}
use Rattle.field.specs.Loops.Fold.{folding_cells_next, folding_end}
use Rattle.poly.proofs.division.spread.Goals as goal

pub loop-t-preserved : goal.loop-t-preserved
loop-t-preserved c =
    folding_cells_next c.loop-t.invariant c.loop-t-test.true (simp length-set)
    (ap₂ (set c.loop-t.cells) c.of-at.ensures c.coefficient_of.ensures)

pub returns : goal.returns
returns c = folding_end c.loop-t.invariant.folding c.loop-t-test.false
