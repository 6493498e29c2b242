-- `poly::value::risen` meets its contract: where x and y have other exponents the number is worked anew, else z's power is raised.
use Rattle.std.proofs.Common.{◌≡◌, ℕ, ◌-◌, ◌*◌, ◌/◌, ◌%◌, ◌^◌, sym, ap, ◌∙◌}
use Rattle.field.specs.Contract.{element}
use Rattle.poly.specs.Keys.{exponents}
use Rattle.poly.specs.Key.Laws.{z_risen}
use Rattle.poly.specs.Value.Monomial.{times_power_of}
use Rattle.poly.specs.Value.PowerLaws.{head_in_turn, head_risen}
use Rattle.poly.proofs.value.risen.Goals as goal

pub returns-then-k-before : goal.returns-then-k-before
returns-then-k-before c =
    let y = c.args.y in
    let p = y.modulus in
    let y_worked : c.raised.result ≡ element p ((1 * y.value ^ (exponents c.args.k.bits).y) % p) =
    c.raised.ensures ∙ (λ i. times_power_of (c.one-one.ensures i) y (c.y.ensures i)) in
    c.raised-then-k-before.ensures ∙ (λ i. times_power_of (y_worked i) c.args.z (c.z.ensures i))
    ∙ ap (element p) (head_in_turn p y.value c.args.z.value c.args.k.bits)

pub returns : goal.returns
returns c =
    let y = c.args.y in
    let z = c.args.z in
    let before = c.args.before.bits in
    let k = c.args.k.bits in
    let n = (k / 8 - before / 8) % 8 in
    c.raised-2.ensures ∙ (λ i. times_power_of (c.requires.number i) z n)
    ∙ ap (element y.modulus)
    (head_risen y.modulus y.value z.value before k n (ap (λ (m : ℕ). m % 8) (sym c.if-k-before.false))
    (z_risen before k c.requires.not_greater c.if-k-before.false))
