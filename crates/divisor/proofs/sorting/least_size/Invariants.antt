-- The loop keeps that the least size is that of what was met and of the sizes that are left.
use Rattle.field.specs.Loops.Fold.{Folding}
use Rattle.divisor.specs.Sorting.Model.{with_size}
use Rattle.divisor.proofs.sorting.least_size.Given as goal

abbrev pub invariant-loop-size : goal.invariant-loop-size
invariant-loop-size l = Folding with_size l.sizes 0 l.size-index l.least
