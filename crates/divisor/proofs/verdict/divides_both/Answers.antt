-- `divisor::verdict::divides_both` meets its contract, from what the two trial divisions say.
use Rattle.std.proofs.Common.{refl, arith}
use Rattle.field.specs.Faults.Laws.{exit_err}
use Rattle.divisor.specs.Verdict.Laws.{first_fails, then_second}
use Rattle.divisor.proofs.verdict.divides_both.Goals as goal

pub returns-in_err-one : goal.returns-in_err-one
returns-in_err-one c =
    let one = c.in_err-one.ensures in
    rw (exit_err _ c.from_residual.ensures.1)
    (record { divided = first_fails one.division c.requires.second (λ z. omega (arith, z, one.numbered)); numbered = one.numbered })

pub returns-in-Ok-clause-divided : goal.returns-in-Ok-clause-divided
returns-in-Ok-clause-divided c = then_second c.in_ok-one.ensures.division refl c.in-Ok.ensures.division

pub returns-in-Err-clause-divided : goal.returns-in-Err-clause-divided
returns-in-Err-clause-divided c = then_second c.in_ok-one.ensures.division refl c.in-Err.ensures.division
