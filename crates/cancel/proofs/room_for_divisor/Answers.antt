-- `cancel::room_for_divisor` meets its contract, by the tests of the two lengths.
use Rattle.std.proofs.Common.{inl, inr}
use Rattle.cancel.specs.Cancelling.Model.{none_lent, enough}
use Rattle.cancel.proofs.room_for_divisor.Goals as goal

pub returns-then-numerator-lt-CELLS : goal.returns-then-numerator-lt-CELLS
returns-then-numerator-lt-CELLS c = none_lent (inl c.if-numerator-lt-CELLS.true)

pub returns-then-denominator-lt-CELLS : goal.returns-then-denominator-lt-CELLS
returns-then-denominator-lt-CELLS c = none_lent (inr c.if-denominator-lt-CELLS.true)

pub returns : goal.returns
returns c = enough c.if-numerator-lt-CELLS.false c.if-denominator-lt-CELLS.false
