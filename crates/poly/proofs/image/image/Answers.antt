-- `poly::image::image` meets its contract: a refusal of the table, or what the point gives.
use Rattle.std.proofs.Common.{sym, arith}
use Rattle.field.specs.Faults.Laws.{exit_err}
use Rattle.poly.specs.Image.Call.{image_fine, image_refused, image_answered, record_bad, record_good}
use Rattle.poly.proofs.image.image.Goals as goal

pub returns-in_err-check_call : goal.returns-in_err-check_call
returns-in_err-check_call c =
    let a = c.args in
    image_refused a.p a.first.now a.second.now a.point.now _ c.in_err-check_call.ensures (exit_err _ c.from_residual.ensures.1)

pub image_into-size-requires : goal.image_into-size-requires
image_into-size-requires c =
    let a = c.args in
    image_fine a.p a.first.now a.second.now a.point.now c.in_ok-check_call.ensures

pub returns-then-size-eq0 : goal.returns-then-size-eq0
returns-then-size-eq0 c =
    let a = c.args in
    rw c.at.ensures (
      omega arith,
      image_answered a.p a.first.now a.second.now a.point.now c.in_ok-check_call.ensures _ c.image_into-size.ensures
          (sym (record_bad _ _ c.if-size-eq0.true)),
    )

pub returns : goal.returns
returns c =
    let a = c.args in
    image_answered a.p a.first.now a.second.now a.point.now c.in_ok-check_call.ensures _ c.image_into-size.ensures
    (sym (record_good _ _ c.if-size-eq0.false))
