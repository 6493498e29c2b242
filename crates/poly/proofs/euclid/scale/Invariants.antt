-- The loop fills the array: up to i each number is times c, from i on it is as it was.
use Rattle.std.proofs.Common.{◌*◌, ◌%◌, get_or}
use Rattle.field.specs.Loops.Filled.{Filled}
use Rattle.poly.proofs.euclid.scale.Given as goal

abbrev pub invariant-loop-n : goal.invariant-loop-n
invariant-loop-n l = Filled (λ j. (l.c.value * get_or l.fn.f j 0) % l.c.modulus) 8 l.fn.f l.n-index l.f
