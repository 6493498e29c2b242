-- The loop keeps `KeysSo`: no key before i is wrong, and the key before is at hand.
use Rattle.divisor.specs.Checks.Laws.{KeysSo}
use Rattle.divisor.proofs.checks.first_wrong_key.Given as goal

abbrev pub invariant-loop-i : goal.invariant-loop-i
invariant-loop-i l = KeysSo l.skeleton l.before l.i
