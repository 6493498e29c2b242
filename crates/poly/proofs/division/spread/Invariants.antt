-- What is left of the list, spread over the cells as they are, gives what the whole list gave.
use Rattle.field.specs.Loops.Fold.{FoldingCells}
use Rattle.poly.specs.Division.SpreadModel.{store}
use Rattle.poly.proofs.division.spread.Given as goal

abbrev pub invariant-loop-t : goal.invariant-loop-t
invariant-loop-t l = FoldingCells store l.terms l.initial.cells l.t-index l.cells
