-- The loop is a fold: each term raises the exponents so far (`raised`).
use Rattle.field.specs.Loops.Fold.{Folding}
use Rattle.poly.specs.Keys.{exponents}
use Rattle.poly.specs.Division.Turns.{raised}
use Rattle.poly.proofs.division.most.Given as goal

abbrev pub invariant-loop-t : goal.invariant-loop-t
invariant-loop-t l = Folding raised l.terms (exponents 0) l.t-index (record { x = l.x; y = l.y; z = l.z; w = l.w })
