-- `poly::value::times_bit` meets its contract: the power 1 is the number, the power 0 is 1.
use Rattle.std.proofs.Common.{◌≡◌, sym, ap, ◌∙◌, arith}
use Rattle.field.specs.Contract.{element}
use Rattle.poly.specs.Value.Monomial.{times_power_of}
use Rattle.poly.specs.Value.PowerLaws.{power_none, power_once}
use Rattle.poly.proofs.value.times_bit.Goals as goal

pub returns-else-n-eq0 : goal.returns-else-n-eq0
returns-else-n-eq0 c =
    let a = c.args.a in
    let y = c.args.y in
    let e : 1 ≡ c.args.n = omega arith in
    c.product.ensures ∙ ap (element a.modulus) (power_once a.value y.value a.modulus) ∙ ap (times_power_of a y) e

pub returns-then-n-eq0 : goal.returns-then-n-eq0
returns-then-n-eq0 c =
    let a = c.args.a in
    let y = c.args.y in
    ap (element a.modulus) (power_none a.value y.value a.modulus c.requires.factors.below) ∙ ap (times_power_of a y) (sym c.if-n-eq0.true)
