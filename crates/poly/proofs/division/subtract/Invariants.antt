-- Taking away what is left of the product from the cells as they are gives what the whole gave.
use Rattle.field.specs.Loops.Fold.{FoldingCells}
use Rattle.poly.specs.Division.Model.{less_term}
use Rattle.poly.proofs.division.subtract.Given as goal

abbrev pub invariant-loop-t : goal.invariant-loop-t
invariant-loop-t l = FoldingCells (less_term l.q.modulus l.shift l.q.value) l.divisor l.initial.cells l.t-index l.cells
