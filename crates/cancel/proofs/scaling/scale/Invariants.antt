-- The loop fills the list, and finds each term as it was.
use Rattle.std.proofs.Common.{length, get_or}
use Rattle.field.specs.Loops.Filled.{Filled}
use Rattle.cancel.specs.Scaling.Model.{term_times}
use Rattle.cancel.proofs.scaling.scale.Given as goal

abbrev pub invariant-loop-term : goal.invariant-loop-term
invariant-loop-term l =
    Filled (λ j. term_times l.p l.factor (get_or l.initial.term-items j 0)) (length l.initial.term-items) l.initial.term-items l.term-index l.term-items
