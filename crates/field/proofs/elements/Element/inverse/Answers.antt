-- `field::Element::inverse` meets its contract: its loop keeps `Chased`.
use Rattle.std.proofs.Common.{refl, arith}
use Rattle.field.specs.Modulus.Laws.{listed_prime}
use Rattle.field.specs.Elements.Chase.{begin, next, end}
use Rattle.field.proofs.elements.Element.inverse.Goals as goal

pub loop-r-init : goal.loop-r-init
loop-r-init c = begin (listed_prime c.requires.is_listed) c.args.self.value c.requires.nonzero c.requires.below

pub loop-r-preserved : goal.loop-r-preserved
loop-r-preserved c = next (listed_prime c.requires.is_listed) c.loop-r.invariant c.loop-r-test.true

pub returns : goal.returns
returns c =
    record {
      same = refl;
      below = omega arith;
      product_one = end (omega arith) c.loop-r.invariant c.loop-r-test.false;
    }
