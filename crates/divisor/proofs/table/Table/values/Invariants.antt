-- The loop keeps that there are as many values as a row has cells, and that back substitution from column j on them gives what it gives from the last
-- column on zeros.
use Rattle.std.proofs.Common.{◌≡◌, ◌-◌, length}
use Rattle.divisor.specs.Table.Model.{most_columns, zeros, back}
use Rattle.divisor.proofs.table.Table.values.Given as goal

abbrev pub invariant-loop-j : goal.invariant-loop-j
invariant-loop-j l = record {
  size : length l.values ≡ most_columns;
  same : back l.j l.p l.self l.values ≡ back (l.self.columns - 1) l.p l.self zeros;
}
