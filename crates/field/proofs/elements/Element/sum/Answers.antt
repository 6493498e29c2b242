-- `field::Element::sum` meets its contract: two numbers below the modulus have a sum below twice the modulus, so its remainder needs no division.
use Rattle.std.proofs.Common.{ap, sym, arith, mod-eq_of_lt}
use Rattle.field.specs.Contract.{element}
use Rattle.field.proofs.elements.Element.sum.Goals as goal

pub returns-then-s-p : goal.returns-then-s-p
returns-then-s-p c = ap (element _) (sym (mod-eq_of_lt (omega arith)))
