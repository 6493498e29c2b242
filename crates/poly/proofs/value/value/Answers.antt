-- `poly::value::value` meets its contract: each turn works the term's power of w, then y^b z^c from that of the key before, and adds their product
-- at the term's power of x.
use Rattle.std.proofs.Common.{◌≡◌, ℕ, suc, ◌+◌, ◌-◌, ◌*◌, ◌/◌, ◌%◌, ◌≤◌, ◌<◌, List, length, get_or, sym, ap, ◌∙◌, subst, arith}
use Rattle.std.proofs.Math.ListN.{get_or-eq_default}
use Rattle.field.specs.declared.elements.Element.{Element}
use Rattle.field.specs.Contract.{element}
use Rattle.field.specs.Elements.Plain.{plus_product_is}
use Rattle.poly.specs.Keys.{keys}
use Rattle.poly.specs.Terms.{key_of, coefficient_of}
use Rattle.poly.specs.Lists.{Falling}
use Rattle.poly.specs.List.Falling.{falling_key, falling_coefficient, falling_rises}
use Rattle.poly.specs.Value.Monomial.{monomial}
use Rattle.poly.specs.Value.Model.{plus_term}
use Rattle.poly.specs.Value.PowerLaws.{factors_again, times_power_is, rises, risen_is, head_none}
use Rattle.poly.specs.Value.ModelLaws.{value_of_none, value_of_stored, term_in_parts}
use Rattle.poly.proofs.value.value.Goals as goal

-- read from behind, the next term's key is not smaller
rising : (p : ℕ) (ts : List ℕ) → Falling p keys ts → (i : ℕ) → 0 < i → i ≤ length ts → key_of (get_or ts i 0) ≤ key_of (get_or ts (i - 1) 0)
rising p ts h i s l =
    let e : suc (i - 1) ≡ i = omega arith in
    subst (λ (k : ℕ). key_of (get_or ts k 0) ≤ key_of (get_or ts (i - 1) 0)) e (falling_rises p keys ts h (i - 1) (omega arith))

-- a term's power of x
x_small : (p : ℕ) (ts : List ℕ) → Falling p keys ts → (i : ℕ) → i < length ts → {k x : ℕ} → k ≡ key_of (get_or ts i 0) → x ≡ k / 512 → x < 8
x_small p ts h i l e d = omega (arith, falling_key p keys ts h i l)

pub loop-i-init : goal.loop-i-init
loop-i-init c =
    let p = c.args.p in
    let at = c.args.point.now in
    let ts = c.args.terms.now in
    record {
      within = omega arith;
      value = value_of_none p at ts (length ts) (omega arith);
      key = let e : get_or ts (length ts) 0 ≡ 0 = get_or-eq_default ts 0 (omega arith) in sym (ap key_of e);
      number = c.one-yz.ensures ∙ ap (element p) (head_none p (get_or at 0 0) (get_or at 1 0) c.requires.above);
    }

pub times_power-v-requires : goal.times_power-v-requires
times_power-v-requires c =
    let i = c.loop-i.i in
    let l = falling_coefficient c.args.p keys c.args.terms.now c.requires.right.falls (i - 1) (omega arith) in
    record {
      factors = factors_again c.of.ensures (omega arith) (ap (λ (e : Element). e.modulus) c.of-w.ensures);
      three_bits = omega arith;
    }

pub risen-yz-requires : goal.risen-yz-requires
risen-yz-requires c =
    let l = rising c.args.p c.args.terms.now c.requires.right.falls c.loop-i.i (omega arith) c.loop-i.invariant.within in
    rises c.of-y.ensures c.of-z.ensures _ _ c.requires.above c.loop-i.invariant.number (omega arith)

pub bounds-r-x : goal.bounds-r-x
bounds-r-x c = x_small c.args.p c.args.terms.now c.requires.right.falls (c.loop-i.i - 1) (omega arith) c.of-k.ensures c.x-x.ensures

pub bounds-r-x-in-loop-i : goal.bounds-r-x-in-loop-i
bounds-r-x-in-loop-i c =
    x_small c.args.p c.args.terms.now c.requires.right.falls (c.loop-i.i - 1) (omega arith) c.of-k.ensures c.x-x.ensures

pub loop-i-preserved : goal.loop-i-preserved
unfolding plus_term
loop-i-preserved c =
    let p = c.args.p in
    let at = c.args.point.now in
    let ts = c.args.terms.now in
    let l = c.loop-i in
    let bits = c.of-k.ensures in
    let y = get_or at 0 0 in
    let z = get_or at 1 0 in
    let w = get_or at 2 0 in
    let coefficient = coefficient_of (get_or ts (l.i - 1) 0) in
    let sum = get_or l.r c.x-x.result 0 in
    let w_worked = times_power_is (c.of.ensures ∙ ap (element p) c.coefficient_of.ensures) c.of-w.ensures c.w.result c.times_power-v.ensures in
    let yz_worked = risen_is c.of-y.ensures c.of-z.ensures c.of-k.result.bits c.risen-yz.ensures in
    record {
      within = omega arith;
      value =
          value_of_stored p at ts l.i c.loop-i-test.true l.invariant.within l.invariant.value (c.x-x.ensures ∙ ap (λ (n : ℕ). n / 512) bits)
          (ap (λ (e : Element). e.value) (plus_product_is w_worked yz_worked c.of-in-loop-i.ensures c.plus_product.ensures)
          ∙ term_in_parts p coefficient c.w.result y z w c.of-k.result.bits sum c.w.ensures
          ∙ ap (λ (n : ℕ). (sum + coefficient * monomial y z w n) % p) bits);
      key = bits;
      number = yz_worked;
    }
