-- `poly::value::times_power` meets its contract: the three bits of the power, with the number, its square and the square of that.
use Rattle.std.proofs.Common.{◌≡◌, ℕ, ◌*◌, ◌/◌, ◌%◌, ◌^◌, ap, ◌∙◌}
use Rattle.field.specs.Contract.{element, product_of}
use Rattle.poly.specs.Value.Monomial.{times_power_of}
use Rattle.poly.specs.Value.PowerLaws.{power_by_bits}
use Rattle.poly.proofs.value.times_power.Goals as goal

pub returns : goal.returns
returns c =
    let a = c.args.a in
    let y = c.args.y in
    let n = c.args.n in
    let p = a.modulus in
    let s = y.value * y.value % p in
    let square : c.product-y2.result ≡ element p s = c.product-y2.ensures ∙ ap (λ (m : ℕ). element m (y.value * y.value % m)) c.requires.factors.same in
    let fourth : c.product-y4.result ≡ element p (s * s % p) = c.product-y4.ensures ∙ (λ i. product_of (square i) (square i)) in
    let second : c.times_bit-c.result ≡ element p (a.value * y.value ^ (n % 2) % p * s ^ (n / 2 % 2) % p) =
    c.times_bit-c.ensures ∙ (λ i. times_power_of (c.times_bit-b.ensures i) (square i) (n / 2 % 2)) in
    c.times_bit.ensures ∙ (λ i. times_power_of (second i) (fourth i) (n / 4)) ∙ ap (element p) (power_by_bits p a.value y.value n)
