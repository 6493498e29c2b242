-- `poly::euclid::subtract` meets its contract: the loop fills the array from k on.
use Rattle.std.proofs.Common.{refl, ap, ◌∙◌, ℕ, ◌+◌, ◌-◌, ◌*◌, ◌%◌, get_or, arith}
use Rattle.field.specs.declared.elements.Element.{Element}
use Rattle.field.specs.Elements.Plain.{minus_product_is}
use Rattle.field.specs.Loops.Cells.{part_start, part_next, part_end}
use Rattle.poly.specs.Euclid.Model.{subtract}
use Rattle.poly.proofs.euclid.subtract.Goals as goal

pub loop-i-init : goal.loop-i-init
loop-i-init c = part_start (omega arith) c.requires.eight

pub loop-i-preserved : goal.loop-i-preserved
loop-i-preserved c =
    part_next c.loop-i.invariant (omega arith) (omega arith)
    (ap (λ (v : Element). v.value) (minus_product_is refl c.of.ensures c.of-a.ensures c.minus_product.ensures)
    ∙ ap (λ (x : ℕ). (x + (c.args.c.modulus - c.args.c.value) * get_or c.args.g.now (c.loop-i.i - c.args.k) 0) % c.args.c.modulus)
    (c.loop-i.invariant.filled.left c.loop-i.i (omega arith)))

pub returns : goal.returns
unfolding subtract
returns c = part_end c.loop-i.invariant (omega arith)
