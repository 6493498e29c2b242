-- `poly::quotient::quotient` meets its contract: a fault of the table is the answer, and inputs that pass are divided.
use Rattle.field.specs.Faults.Laws.{exit_err}
use Rattle.poly.specs.QuotientCall.{quotient_call}
use Rattle.poly.specs.Quotient.Laws.{quotient_refused}
use Rattle.poly.proofs.quotient.quotient.Goals as goal

pub returns-in_err-check_call : goal.returns-in_err-check_call
returns-in_err-check_call c =
    let a = c.args in
    quotient_refused (quotient_call a.p a.first.now a.second.now a.out.now a.work.now) _ c.in_err-check_call.ensures
    (exit_err _ c.from_residual.ensures.1)
