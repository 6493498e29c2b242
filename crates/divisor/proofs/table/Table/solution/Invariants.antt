-- The loop keeps that a row is kept in each column before j.
use Rattle.std.proofs.Common.{◌≡◌, ℕ, ◌<◌}
use Rattle.divisor.specs.Table.Model.{diagonal}
use Rattle.divisor.proofs.table.Table.solution.Given as goal

abbrev pub invariant-loop-j : goal.invariant-loop-j
invariant-loop-j l = (k : ℕ) → k < l.j → ¬ (diagonal l.self k ≡ 0)
