-- The loop keeps that the row is an equation's, and that what the columns from j on make of the row is what all columns make of the equation.
use Rattle.std.proofs.Common.{◌≡◌, ◌-◌}
use Rattle.divisor.specs.Table.Model.{insert, with_row, RowReady}
use Rattle.divisor.proofs.table.Table.reduce.Given as goal

abbrev pub invariant-loop-j : goal.invariant-loop-j
invariant-loop-j l = record {
  ready : RowReady l.p l.row;
  comes_to : insert (l.self.columns - l.j) l.j l.p l.self l.row ≡ with_row l.p l.self l.fn.e;
}
