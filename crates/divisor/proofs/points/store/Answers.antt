-- `divisor::points::store` meets its contract: numbers that are copied into a part of the room are stored there.
use Rattle.std.proofs.Common.{sym, ◌∙◌, ap, length, arith}
use Rattle.divisor.specs.Points.Parts.{stored_is}
use Rattle.divisor.proofs.points.store.Goals as goal

pub returns : goal.returns
returns c =
    let a = c.args in
    let copy = c.copy_from_slice.ensures in
    rw copy.after (stored_is 8 a.coefficients a.at a.work.now (sym (ap length copy.after) ∙ copy.len) (omega arith))
