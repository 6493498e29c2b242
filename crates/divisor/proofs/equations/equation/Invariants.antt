-- The loop keeps that the keys passed have their numbers, and that all other cells are 0.
use Rattle.field.specs.Loops.Filled.{Filled}
use Rattle.divisor.specs.Table.Model.{most_columns, zeros}
use Rattle.divisor.specs.Equations.Turns.{number_at}
use Rattle.divisor.proofs.equations.equation.Given as goal

abbrev pub invariant-loop-j : goal.invariant-loop-j
invariant-loop-j l = Filled (number_at l.u.modulus l.y.value l.z.value l.w.value l.skeleton l.i) most_columns zeros l.j l.row.cells
