-- `poly::quotient::exact` meets its contract, from what its calls say: the room cleared, the division, the quotient's terms gathered, and
-- the room cleared again.
use Rattle.std.proofs.Common.{◌≤◌, length, arith}
use Rattle.poly.specs.Room.{work_room}
use Rattle.poly.specs.Rooms.Laws.{zeroed_all}
use Rattle.poly.specs.QuotientCall.{QuotientCall, quotient_call}
use Rattle.poly.specs.Division.WorkRoom.{quotient_long}
use Rattle.poly.specs.TrialDivision.{trial}
use Rattle.poly.specs.Division.Trial.{stopped_number, ended_number}
use Rattle.poly.specs.Quotient.Laws.{passed_lists, passed_output}
use Rattle.poly.specs.Quotient.Exact.{exact_begins, exact_none, exact_found}
use Rattle.poly.proofs.quotient.exact.Goals as goal

pub divide-requires : goal.divide-requires
divide-requires c =
    let a = c.args in
    let call : QuotientCall = quotient_call a.p a.first.now a.second.now a.out.now a.work.now in
    rw (zeroed_all work_room a.work.now (passed_lists call c.requires).room c.clear.ensures) (exact_begins call c.requires)

pub returns-in-Err : goal.returns-in-Err
returns-in-Err c =
    let a = c.args in
    let call : QuotientCall = quotient_call a.p a.first.now a.second.now a.out.now a.work.now in
    let room = (passed_lists call c.requires).room in
    let long : work_room ≤ length c.divide.new.work = omega arith in
    rw c.at.ensures (
      omega arith,
      exact_none call c.requires _ _ _ (trial c.divide.result) (zeroed_all work_room a.work.now room c.clear.ensures) c.divide.ensures.division
          (zeroed_all work_room _ long c.clear-in-Err.ensures) (stopped_number c.in-Err.is c.divide.ensures.numbered),
    )

pub slice_bounds-gather-end : goal.slice_bounds-gather-end
slice_bounds-gather-end c =
    let a = c.args in
    let call : QuotientCall = quotient_call a.p a.first.now a.second.now a.out.now a.work.now in
    let room = (passed_lists call c.requires).room in
    let long : work_room ≤ length c.divide.new.work = omega arith in
    long

pub gather-terms-requires : goal.gather-terms-requires
gather-terms-requires c =
    let a = c.args in
    let call : QuotientCall = quotient_call a.p a.first.now a.second.now a.out.now a.work.now in
    let room = (passed_lists call c.requires).room in
    let long = quotient_long c.divide.new.work (omega arith) in
    record { few = omega arith; room = omega (arith, passed_output call c.requires) }

pub returns-in-Ok : goal.returns-in-Ok
returns-in-Ok c =
    let a = c.args in
    let call : QuotientCall = quotient_call a.p a.first.now a.second.now a.out.now a.work.now in
    let room = (passed_lists call c.requires).room in
    let long : work_room ≤ length c.divide.new.work = omega arith in
    exact_found call c.requires _ _ _ (trial c.divide.result) (zeroed_all work_room a.work.now room c.clear.ensures) c.divide.ensures.division
    (zeroed_all work_room _ long c.clear-in-Ok.ensures) (ended_number c.in-Ok.is) (quotient_long c.divide.new.work long) _ _ c.gather-terms.ensures
