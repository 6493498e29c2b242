-- The loop keeps `Looks`: the sizes and the images of the points passed stand.
use Rattle.std.proofs.Common.{◌/◌, ◌≤◌, length}
use Rattle.divisor.specs.Points.Model.{Looks}
use Rattle.divisor.proofs.points.look.Given as goal

abbrev pub invariant-loop-i : goal.invariant-loop-i
invariant-loop-i l = record {
  within : l.i ≤ length l.case.points.now / 3;
  looks : Looks l.i l.case.modulus l.case.first.now l.case.second.now l.case.points.now l.fn.work l.work l.sizes;
}
