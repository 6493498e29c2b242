-- `poly::value::raised` meets its contract: the power 0 is the number, and each turn gives one more factor.
use Rattle.std.proofs.Common.{ap, ◌∙◌, sym, add-one}
use Rattle.field.specs.Contract.{element, product_of}
use Rattle.poly.specs.Value.Monomial.{times_power_of}
use Rattle.poly.specs.Value.PowerLaws.{power_none, power_more}
use Rattle.poly.proofs.value.raised.Goals as goal

pub loop-init : goal.loop-init
loop-init c =
    let a = c.args.a in
    ap (element a.modulus) (power_none a.value c.args.y.value a.modulus c.requires.below)

pub loop-preserved : goal.loop-preserved
loop-preserved c =
    let a = c.args.a in
    let y = c.args.y in
    let n = c.loop.counter in
    c.product-r.ensures ∙ (λ k. product_of (c.loop.invariant k) y) ∙ ap (element a.modulus) (power_more a.modulus a.value y.value n)
    ∙ ap (times_power_of a y) (sym (add-one n))
