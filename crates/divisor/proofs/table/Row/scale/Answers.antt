-- `divisor::table::Row::scale` meets its contract. The loop is as that of `subtract`, with the inverse, which is the field's by the link of `field`.
use Rattle.std.proofs.Common.{◌∙◌, ap, subst, ◌*◌, ◌%◌, arith}
use Rattle.field.specs.Modulus.Laws.{listed_prime}
use Rattle.field.specs.Contract.{element, product_of, Inverse}
use Rattle.field.specs.Elements.Link.{inverse_val}
use Rattle.field.specs.Loops.Cells.{part_start, part_next, part_end}
use Rattle.divisor.specs.Table.Model.{altered, cell}
use Rattle.divisor.proofs.table.Row.scale.Goals as goal

pub loop-i-init : goal.loop-i-init
loop-i-init c = part_start (omega arith) c.requires.size

pub loop-i-preserved : goal.loop-i-preserved
loop-i-preserved c =
    let a = c.args in
    let i = c.loop-i.i in
    let r = c.inverse-inverse.result in
    let is : Inverse (element a.p (cell a.self.now a.j)) r = subst (λ e. Inverse e r) c.of-first.ensures c.inverse-inverse.ensures in
    let made = c.product-next.ensures ∙ ap (product_of r) c.of.ensures
    ∙ ap (λ m. element m (r.value * cell c.loop-i.self i % m)) is.same in
    part_next c.loop-i.invariant c.loop-i-test.true c.requires.most
    (ap (λ e. e.value) made ∙ ap (λ x. r.value * x % a.p) (c.loop-i.invariant.filled.left i (omega arith)))

pub returns : goal.returns
returns c =
    let a = c.args in
    let r = c.inverse-inverse.result in
    let is : Inverse (element a.p (cell a.self.now a.j)) r = subst (λ e. Inverse e r) c.of-first.ensures c.inverse-inverse.ensures in
    ap (λ x. record { cells = x }) (part_end c.loop-i.invariant c.loop-i-test.false)
    ∙ ap (λ f. altered a.j a.columns (λ k. f * cell a.self.now k % a.p) a.self.now) (inverse_val _ _ (listed_prime c.requires.listed) is)
