-- `poly::division::subtract` meets its contract: taking away what is left of the product from the cells as they are gives what the whole gave.
use Rattle.std.proofs.Common.{refl, ap, get_or, length-set}
use Rattle.field.specs.declared.elements.Element.{Element}
use Rattle.field.specs.Elements.Plain.{minus_product_is}
use Rattle.field.specs.Loops.Fold.{folding_cells_next, folding_end}
use Rattle.poly.specs.Division.Turns.{less_is}
use Rattle.poly.proofs.division.subtract.Goals as goal

pub loop-t-preserved : goal.loop-t-preserved
loop-t-preserved c =
    let q = c.args.q in
    folding_cells_next c.loop-t.invariant c.loop-t-test.true (simp length-set)
    (less_is q.modulus c.args.shift q.value c.loop-t.cells (get_or c.args.divisor.now c.loop-t.t-index 0) c.of.ensures c.coefficient_of.ensures
    (ap (λ (v : Element). v.value) (minus_product_is {x = q} refl c.of-c.ensures c.of-in-loop-t.ensures c.minus_product.ensures)))

pub returns : goal.returns
returns c = folding_end c.loop-t.invariant.folding c.loop-t-test.false
