-- `poly::division::divides` meets its contract, from what its calls say: the remainder's cells cleared, the division, and the whole room cleared.
use Rattle.std.proofs.Common.{arith}
use Rattle.poly.specs.Keys.{keys}
use Rattle.poly.specs.Room.{work_room}
use Rattle.poly.specs.Rooms.Laws.{zeroed_all}
use Rattle.poly.specs.Division.Begins.{cleared_begins, cleared_trial}
use Rattle.poly.proofs.division.divides.Goals as goal

pub divide-trial-requires : goal.divide-trial-requires
divide-trial-requires c =
    let a = c.args in
    rw (zeroed_all keys a.work.now (omega arith) c.clear.ensures)
    (cleared_begins a.p a.dividend.now a.divisor.now a.work.now c.requires keys (omega arith) (omega arith))

pub returns-clause-division : goal.returns-clause-division
returns-clause-division c =
    let a = c.args in
    cleared_trial a.p a.dividend.now a.divisor.now a.work.now c.requires keys (omega arith) (omega arith) _ _ a.ceiling _
    (zeroed_all keys a.work.now (omega arith) c.clear.ensures) c.divide-trial.ensures.division
    (zeroed_all work_room _ (omega arith) c.clear-2.ensures)
