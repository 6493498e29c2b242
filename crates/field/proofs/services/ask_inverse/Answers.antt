-- `field::ask_inverse` meets its contract: where no line applies, the operand is one that `inverse` asks for.
use Rattle.field.specs.Arithmetic.{answered}
use Rattle.field.specs.Faults.Laws.{exit_err}
use Rattle.field.specs.Services.Laws.{operand_invertible, ask_refused}
use Rattle.field.proofs.services.ask_inverse.Goals as goal

pub returns-in_err-check_inverse_operand : goal.returns-in_err-check_inverse_operand
returns-in_err-check_inverse_operand c = ask_refused _ _ _ _ _ tt c.in_err-check_inverse_operand.ensures (exit_err _ c.from_residual.ensures.1)

pub inverse-requires : goal.inverse-requires
inverse-requires c = operand_invertible _ c.in_ok-check_inverse_operand.ensures

pub returns : goal.returns
returns c = answered _ c.in_ok-check_inverse_operand.ensures c.inverse.ensures
