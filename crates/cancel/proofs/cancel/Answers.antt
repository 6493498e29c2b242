-- `cancel::cancel` meets its contract: the candidate's refusal passed on, or both lists over what it finds.
use Rattle.std.proofs.Common.{ℕ, List, length, take, replicate, sym, subst, length-take-le}
use Rattle.divisor.specs.Candidate.{most_keys}
use Rattle.cancel.specs.CancelCall.{CancelCall, call_of}
use Rattle.cancel.specs.Cancelling.Answers.{room_most, passed_on, terms_fit, can_reduce, reduced_so}
use Rattle.cancel.specs.Cancelling.Tables.{Lent}
use Rattle.cancel.proofs.cancel.Goals as goal

-- a local list for the divisor
abbrev local : List ℕ
local = replicate most_keys 0

-- the room that is lent, of the length that was chosen
lent_room : (c : CancelCall) (room : ℕ) → Lent c room → Lent c (length (take room local))
lent_room c room l =
    subst (Lent c) (sym (length-take-le room local (room_most (length c.numerator_output) (length c.denominator_output) room l))) l

pub returns-then-found-ne0 : goal.returns-then-found-ne0
returns-then-found-ne0 c =
    let a = c.args in
    let k = call_of a.case.now a.ceiling a.numerator_out.now a.denominator_out.now a.work.now in
    let room = lent_room k c.room_for_divisor-room.result c.room_for_divisor-room.ensures in
    rw c.with_both.ensures (passed_on k _ room _ c.candidate-found.ensures c.if-found-ne0.true)

pub slice_bounds-divisor-end-2 : goal.slice_bounds-divisor-end-2
slice_bounds-divisor-end-2 c =
    let a = c.args in
    let k = call_of a.case.now a.ceiling a.numerator_out.now a.denominator_out.now a.work.now in
    let room = lent_room k c.room_for_divisor-room.result c.room_for_divisor-room.ensures in
    terms_fit k _ room _ c.candidate-found.ensures c.if-found-ne0.false _

pub slice_bounds-reduce-end : goal.slice_bounds-reduce-end
slice_bounds-reduce-end c =
    let a = c.args in
    let k = call_of a.case.now a.ceiling a.numerator_out.now a.denominator_out.now a.work.now in
    let room = lent_room k c.room_for_divisor-room.result c.room_for_divisor-room.ensures in
    sym (length-take-le _ _ (terms_fit k _ room _ c.candidate-found.ensures c.if-found-ne0.false _))

pub reduce-requires : goal.reduce-requires
reduce-requires c =
    let a = c.args in
    let k = call_of a.case.now a.ceiling a.numerator_out.now a.denominator_out.now a.work.now in
    let room = lent_room k c.room_for_divisor-room.result c.room_for_divisor-room.ensures in
    can_reduce k _ room _ c.candidate-found.ensures c.if-found-ne0.false

pub returns : goal.returns
returns c =
    let a = c.args in
    let k = call_of a.case.now a.ceiling a.numerator_out.now a.denominator_out.now a.work.now in
    let room = lent_room k c.room_for_divisor-room.result c.room_for_divisor-room.ensures in
    reduced_so k _ room _ c.candidate-found.ensures c.if-found-ne0.false _ _ _ _ _ _ c.reduce.ensures
