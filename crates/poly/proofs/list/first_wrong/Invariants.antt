-- The loop keeps `Walked`: no term before i is wrong, and the key before is at hand.
use Rattle.poly.proofs.list.Walk.{Walked}
use Rattle.poly.proofs.list.first_wrong.Given as goal

abbrev pub invariant-loop-i : goal.invariant-loop-i
invariant-loop-i l = Walked l.bound l.terms l.before l.i
