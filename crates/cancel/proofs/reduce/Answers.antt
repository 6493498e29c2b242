-- `cancel::reduce` meets its contract: what is told of the two quotients.
use Rattle.std.proofs.Common.{◌≡◌, refl, ap, ap₂, ◌∙◌, ℕ, Ok, Err}
use Rattle.std.specs.Prelude.{Result}
use Rattle.std.specs.Result.{result_unwrap_or}
use Rattle.field.specs.declared.faults.Fault.{Fault}
use Rattle.field.specs.Faults.Laws.{told, stands_told}
use Rattle.poly.specs.QuotientCall.{refused_quotient, found_quotient, quotient_call, quotient_result, Quotient}
use Rattle.cancel.specs.CancelCall.{with_both}
use Rattle.cancel.specs.Scaling.Model.{times}
use Rattle.cancel.proofs.reduce.Goals as goal

-- how many terms are told of
terms_told : (r : Result ℕ Fault) → result_unwrap_or r 0 ≡ (told refused_quotient found_quotient r).terms
terms_told (Ok n) = refl
terms_told (Err f) = refl

pub returns : goal.returns
returns c =
    let a = c.args in
    let k = a.case.now in
    let first = c.quotient-first in
    let second = c.quotient-second in
    record {
      changed = c.scale.ensures ∙ ap (λ (x : ℕ). times k.modulus x a.divisor.now) c.coefficient_of-lead.ensures;
      first = told refused_quotient found_quotient first.result;
      second = told refused_quotient found_quotient second.result;
      between = first.new.work;
      of_numerator = stands_told refused_quotient found_quotient
          (λ r. Quotient (quotient_call k.modulus k.first.now c.scale.new.terms a.numerator_out.now a.work.now) (quotient_result r first.new.out first.new.work))
          first.result first.ensures;
      of_denominator = stands_told refused_quotient found_quotient
          (λ r. Quotient (quotient_call k.modulus k.second.now c.scale.new.terms a.denominator_out.now first.new.work) (quotient_result r second.new.out second.new.work))
          second.result second.ensures;
      told = c.with_both.ensures
          ∙ ap₂ (with_both a.found) (c.unwrap_or.ensures ∙ terms_told first.result) (c.unwrap_or-2.ensures ∙ terms_told second.result);
    }
