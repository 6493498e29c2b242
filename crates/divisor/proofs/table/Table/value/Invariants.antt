-- The loop keeps that the sum is a number below p, and that with the columns from k on it comes to the whole sum.
use Rattle.std.proofs.Common.{◌≡◌, ◌+◌, ◌-◌, ◌<◌}
use Rattle.divisor.specs.Table.Model.{cell, row_at, total}
use Rattle.divisor.proofs.table.Table.value.Given as goal

abbrev pub invariant-loop-k : goal.invariant-loop-k
invariant-loop-k l = record {
  modulus : l.sum.modulus ≡ l.p;
  below : l.sum.value < l.p;
  comes_to :
      total (l.last - l.k) l.k l.p (row_at l.self l.j) l.values l.sum.value
      ≡ total (l.last - (l.j + 1)) (l.j + 1) l.p (row_at l.self l.j) l.values (cell (row_at l.self l.j) l.last);
}
