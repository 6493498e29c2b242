-- The loop keeps `Chased`: the value times t is r, with 0 < r < p; the measure is r.
use Rattle.field.specs.Elements.Chase.{Chased}
use Rattle.field.proofs.elements.Element.inverse.Given as goal

abbrev pub invariant-loop-r : goal.invariant-loop-r
invariant-loop-r l = Chased l.self.modulus l.self.value l.r l.t

abbrev pub decreases-loop-r : goal.decreases-loop-r
decreases-loop-r l = l.r
