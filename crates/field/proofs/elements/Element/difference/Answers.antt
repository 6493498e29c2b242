-- `field::Element::difference` meets its contract: of two numbers below the modulus the difference, or the modulus less the difference the other way.
use Rattle.std.proofs.Common.{ap, arith}
use Rattle.field.specs.Contract.{element}
use Rattle.field.specs.Elements.Remainder.{difference_down}
use Rattle.field.proofs.elements.Element.difference.Goals as goal

pub returns-then-self-other : goal.returns-then-self-other
returns-then-self-other c = ap (element _) (difference_down _ _ _ (omega arith) (omega arith) (omega arith))
