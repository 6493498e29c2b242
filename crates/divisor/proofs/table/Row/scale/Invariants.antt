-- The loop keeps that the row is filled from column j up to i.
use Rattle.std.proofs.Common.{◌*◌, ◌%◌}
use Rattle.field.specs.Loops.Filled.{FilledPart}
use Rattle.divisor.specs.Table.Model.{most_columns, cell}
use Rattle.divisor.proofs.table.Row.scale.Given as goal

abbrev pub invariant-loop-i : goal.invariant-loop-i
invariant-loop-i l = FilledPart l.j l.columns (λ k. l.inverse.value * cell l.fn.self k % l.p) most_columns l.fn.self.cells l.i l.self.cells
