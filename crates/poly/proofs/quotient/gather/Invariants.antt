-- The terms of the cells from k on are put, and those of the cells below k are left.
use Rattle.std.proofs.Common.{List, ℕ, ◌+◌, ◌≤◌, length}
use Rattle.field.specs.Loops.Putting.{Putting}
use Rattle.poly.specs.Division.SpreadModel.{gathered}
use Rattle.poly.proofs.quotient.gather.Given as goal

pub record Gathering (cells before out : List ℕ) (k n : ℕ) : Type 0 where
  pub few : n + k ≤ length cells
  pub terms : Putting (gathered (length cells) cells) 0 n before out (gathered k cells)

abbrev pub invariant-loop-k : goal.invariant-loop-k
invariant-loop-k l = Gathering l.cells l.initial.out l.out l.k l.n
