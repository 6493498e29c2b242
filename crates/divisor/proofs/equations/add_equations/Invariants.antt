-- The loop keeps that the table is the one lent with the first k equations added.
use Rattle.divisor.specs.Equations.Model.{AddsFirst}
use Rattle.divisor.proofs.equations.add_equations.Given as goal

abbrev pub invariant-loop-k : goal.invariant-loop-k
invariant-loop-k l = AddsFirst l.k l.case.modulus l.fn.t l.case.skeleton.now l.case.points.now l.places l.work l.n l.t
