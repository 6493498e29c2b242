-- The loop fills the array from k on.
use Rattle.field.specs.Loops.Filled.{FilledPart}
use Rattle.poly.specs.Euclid.Model.{less_at}
use Rattle.poly.proofs.euclid.subtract.Given as goal

abbrev pub invariant-loop-i : goal.invariant-loop-i
invariant-loop-i l = FilledPart l.k 8 (less_at l.c.modulus l.c.value l.k l.fn.f l.g) 8 l.fn.f l.i l.f
