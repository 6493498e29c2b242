-- The loop keeps that no term before i has a lower power of x.
use Rattle.std.proofs.Common.{length}
use Rattle.poly.specs.List.Searching.{Searching}
use Rattle.poly.specs.List.Model.{Lower}
use Rattle.poly.proofs.list.leading_length.Given as goal

abbrev pub invariant-loop-i : goal.invariant-loop-i
invariant-loop-i l = Searching (Lower l.terms) (length l.terms) l.i
