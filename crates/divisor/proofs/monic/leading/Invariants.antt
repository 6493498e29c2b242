-- The loop keeps that the leading coefficient is that of what is left.
use Rattle.std.proofs.Common.{◌≡◌, drop}
use Rattle.divisor.specs.Monic.Model.{leading}
use Rattle.divisor.proofs.monic.leading.Given as goal

abbrev pub invariant-loop-coefficient : goal.invariant-loop-coefficient
invariant-loop-coefficient l = leading l.coefficients ≡ leading (drop l.coefficient-index l.coefficients)
