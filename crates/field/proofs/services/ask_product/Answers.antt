-- `field::ask_product` meets its contract: where no line applies, the operands are those that `product` asks for.
use Rattle.std.proofs.Common.{arith}
use Rattle.field.specs.Arithmetic.{answered}
use Rattle.field.specs.Faults.Laws.{exit_err}
use Rattle.field.specs.Services.Laws.{operands_fit, ask_refused}
use Rattle.field.proofs.services.ask_product.Goals as goal

pub returns-in_err-check_operands : goal.returns-in_err-check_operands
returns-in_err-check_operands c = ask_refused _ _ _ _ _ tt c.in_err-check_operands.ensures (exit_err _ c.from_residual.ensures.1)

pub product-requires : goal.product-requires
product-requires c = let fit = operands_fit _ _ c.in_ok-check_operands.ensures in omega (arith, fit.below)

pub returns : goal.returns
returns c = answered _ c.in_ok-check_operands.ensures c.product.ensures
