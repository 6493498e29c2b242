-- The loop keeps `Turning`, the model's answer; the measure is the size of g.
use Rattle.poly.proofs.euclid.Turning.{Turning}
use Rattle.poly.proofs.euclid.gcd.Given as goal

abbrev pub invariant-loop-n : goal.invariant-loop-n
invariant-loop-n l = Turning l.p l.fn.f l.fn.g l.n l.f l.g

abbrev pub decreases-loop-n : goal.decreases-loop-n
decreases-loop-n l = l.n
