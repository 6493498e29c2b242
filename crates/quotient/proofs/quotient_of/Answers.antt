-- `quotient::quotient_of` meets its contract: the reader's refusal, or the service's answer to the case that was read.
use Rattle.field.specs.Faults.Laws.{exit_err, stands_weaker}
use Rattle.poly.specs.QuotientCall.{refused_quotient, found_quotient, quotient_call, quotient_result, Quotient}
use Rattle.quotient.specs.QuotientOfFile.{QuotientAnswered}
use Rattle.quotient.specs.Answer.Quotient.{quotient_unread, quotient_read}
use Rattle.quotient.proofs.quotient_of.Goals as goal

pub returns-in_err-contents : goal.returns-in_err-contents
returns-in_err-contents c =
    let refused = c.in_err-contents.ensures in
    rw (exit_err _ c.from_residual.ensures.1) (refused.0, quotient_unread _ _ _ _ refused.0 refused.1)

pub returns : goal.returns
returns c =
    let a = c.args in
    let k = c.case-case.result in
    stands_weaker refused_quotient found_quotient
    (λ r. Quotient (quotient_call k.modulus k.first.now k.second.now a.out.now a.work.now) (quotient_result r c.quotient.new.out c.quotient.new.work))
    (λ r. QuotientAnswered a.out.now a.work.now a.bytes.now (quotient_result r c.quotient.new.out c.quotient.new.work))
    (λ r. quotient_read _ _ _ c.in_ok-contents.ensures c.case-case.ensures _) c.quotient.result c.quotient.ensures
