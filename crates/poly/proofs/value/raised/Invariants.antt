-- The power with as many factors as turns is worked.
use Rattle.std.proofs.Common.{◌≡◌}
use Rattle.poly.specs.Value.Monomial.{times_power_of}
use Rattle.poly.proofs.value.raised.Given as goal

abbrev pub invariant-loop : goal.invariant-loop
invariant-loop l = l.r ≡ times_power_of l.fn.a l.y l.counter
