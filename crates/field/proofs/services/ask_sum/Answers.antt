-- `field::ask_sum` meets its contract: where no line applies, the operands are those that `sum` asks for.
use Rattle.field.specs.Arithmetic.{answered}
use Rattle.field.specs.Faults.Laws.{exit_err}
use Rattle.field.specs.Services.Laws.{operands_fit, ask_refused}
use Rattle.field.proofs.services.ask_sum.Goals as goal

pub returns-in_err-check_operands : goal.returns-in_err-check_operands
returns-in_err-check_operands c = ask_refused _ _ _ _ _ tt c.in_err-check_operands.ensures (exit_err _ c.from_residual.ensures.1)

pub sum-requires : goal.sum-requires
sum-requires c = operands_fit _ _ c.in_ok-check_operands.ensures

pub returns : goal.returns
returns c = answered _ c.in_ok-check_operands.ensures c.sum.ensures
