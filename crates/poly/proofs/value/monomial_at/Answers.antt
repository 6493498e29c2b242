-- `poly::value::monomial_at` meets its contract: the powers one after the other, begun with 1.
use Rattle.std.proofs.Common.{◌≡◌, ◌*◌, ◌%◌, ◌^◌, ap, ◌∙◌}
use Rattle.field.specs.Contract.{element}
use Rattle.poly.specs.Keys.{exponents}
use Rattle.poly.specs.Value.Monomial.{times_power_of}
use Rattle.poly.specs.Value.PowerLaws.{monomial_in_turn}
use Rattle.poly.proofs.value.monomial_at.Goals as goal

pub returns : goal.returns
returns c =
    let y = c.args.y in
    let p = y.modulus in
    let e = exponents c.args.k.bits in
    let y_worked : c.times_power-a.result ≡ element p ((1 * y.value ^ e.y) % p) =
    c.times_power-a.ensures ∙ (λ i. times_power_of (c.one-one.ensures i) y (c.y.ensures i)) in
    let z_worked : c.times_power-b.result ≡ element p (((1 * y.value ^ e.y) % p * c.args.z.value ^ e.z) % p) =
    c.times_power-b.ensures ∙ (λ i. times_power_of (y_worked i) c.args.z (c.z.ensures i)) in
    c.times_power.ensures ∙ (λ i. times_power_of (z_worked i) c.args.w (c.w.ensures i))
    ∙ ap (element p) (monomial_in_turn p y.value c.args.z.value c.args.w.value c.args.k.bits)
