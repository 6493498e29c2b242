-- The loop keeps that no number before i is wrong.
use Rattle.std.proofs.Common.{length}
use Rattle.poly.specs.Lists.{WrongNumber}
use Rattle.poly.specs.List.Searching.{Searching}
use Rattle.poly.proofs.points.first_large.Given as goal

abbrev pub invariant-loop-i : goal.invariant-loop-i
invariant-loop-i l = Searching (WrongNumber l.p l.numbers) (length l.numbers) l.i
