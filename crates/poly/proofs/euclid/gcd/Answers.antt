-- `poly::euclid::gcd` meets its contract: the loop keeps `Turning`, the model's answer, and so does each of its two turns; the measure is the
-- size of g.
use Rattle.std.proofs.Common.{◌<◌, arith}
use Rattle.poly.proofs.euclid.Turning.{turning_begins, turning_ends, turning_can, turning_keeps, turning_falls, turning_goes_on}
use Rattle.poly.proofs.euclid.gcd.Goals as goal

pub loop-n-init : goal.loop-n-init
loop-n-init c = turning_begins c.requires c.size-n.ensures

-- after the first turn f and g have changed roles
pub returns-then-m-eq0 : goal.returns-then-m-eq0
returns-then-m-eq0 c =
    turning_ends (turning_goes_on c.loop-n.invariant c.loop-n-test.true c.turn-m.ensures) (omega arith)
    (turning_keeps c.loop-n.invariant c.loop-n-test.true c.turn-m.ensures)

pub turn-n-requires : goal.turn-n-requires
turn-n-requires c = turning_can (turning_goes_on c.loop-n.invariant c.loop-n-test.true c.turn-m.ensures) (omega arith)

pub loop-n-smaller : goal.loop-n-smaller
loop-n-smaller c =
    let first : c.turn-m.result < c.loop-n.n = turning_falls c.loop-n.invariant c.loop-n-test.true c.turn-m.ensures in
    let second : c.turn-n.result < c.turn-m.result =
    turning_falls (turning_goes_on c.loop-n.invariant c.loop-n-test.true c.turn-m.ensures) (omega arith) c.turn-n.ensures in
    omega arith

pub loop-n-preserved : goal.loop-n-preserved
loop-n-preserved c =
    turning_goes_on (turning_goes_on c.loop-n.invariant c.loop-n-test.true c.turn-m.ensures) (omega arith) c.turn-n.ensures

pub returns : goal.returns
returns c = turning_ends c.loop-n.invariant c.loop-n-test.false c.size.ensures
