-- `poly::division::steps` meets its contract. What is left of the division, from the cell k down, ends as the whole does; the search passes cells that are 0.
use Rattle.std.proofs.Common.{◌≡◌, refl, ap, ◌∙◌, ◌+◌, ◌-◌, ◌*◌, true, false, get_or, set, length-set, mod-lt, arith}
use Rattle.field.specs.declared.elements.Element.{Element}
use Rattle.field.specs.Elements.Plain.{has_modulus, product_is}
use Rattle.poly.specs.Keys.{keys}
use Rattle.poly.specs.Division.Going.{going_start, going_passed, going_on, going_done, going_stopped, going_taken, going_cut, lead_below, product_below}
use Rattle.poly.specs.Division.Model.{less_product, fits}
use Rattle.poly.proofs.division.steps.Invariants.{setting}
use Rattle.poly.proofs.division.steps.Goals as goal

pub steps-init : goal.steps-init
steps-init c =
    let a = c.args in
    record {
      within = omega arith;
      going = going_start (setting a.divisor.now a.lead a.inverse a.bound.bits) a.work.now a.top c.requires;
    }

pub loop-k-preserved : goal.loop-k-preserved
loop-k-preserved c =
    let a = c.args in
    let l = c.loop-k in
    let d = setting a.divisor.now a.lead a.inverse a.bound.bits in
    let going = going_on d c.steps.invariant.going l.invariant.within l.invariant.same in
    let passed = going_passed d c.steps.work l.k going.cells c.if-k-eq0.false c.if-work-k-ne0.false in
    record { within = omega arith; same = l.invariant.same ∙ passed }

pub overflow_sub-shift : goal.overflow_sub-shift
overflow_sub-shift c =
    let a = c.args in
    let l = c.loop-k in
    let d = setting a.divisor.now a.lead a.inverse a.bound.bits in
    let going = going_on d c.steps.invariant.going l.invariant.within l.invariant.same in
    let fit : fits d (l.k - 1) ≡ true = cc in
    lead_below d going c.if-k-eq0.false c.if-work-k-ne0.true c.requires fit

pub subtract-requires : goal.subtract-requires
subtract-requires c =
    let a = c.args in
    let l = c.loop-k in
    let d = setting a.divisor.now a.lead a.inverse a.bound.bits in
    let going = going_on d c.steps.invariant.going l.invariant.within l.invariant.same in
    let fit : fits d (l.k - 1) ≡ true = cc in
    let within = product_below d going c.if-k-eq0.false c.if-work-k-ne0.true c.requires fit in
    let factor_is = product_is {y = a.inverse} c.of.ensures refl c.product-q.ensures in
    let long = length-set c.steps.work (keys + (l.k - 1 - a.lead)) c.product-q.result.value in
    let m = ap (λ (v : Element). v.modulus) factor_is in
    let e = ap (λ (v : Element). v.value) factor_is in
    record {
      positive = has_modulus factor_is c.requires.positive;
      reduced = omega (arith, m, e, mod-lt (get_or c.steps.work (l.k - 1) 0 * a.inverse.value) c.requires.positive);
      within = λ i h. omega (arith, within i h, going.same_length, long);
    }

pub steps-preserved : goal.steps-preserved
steps-preserved c =
    let a = c.args in
    let l = c.loop-k in
    let d = setting a.divisor.now a.lead a.inverse a.bound.bits in
    let going = going_on d c.steps.invariant.going l.invariant.within l.invariant.same in
    let fit : fits d (l.k - 1) ≡ true = cc in
    let factor_is = product_is {y = a.inverse} c.of.ensures refl c.product-q.ensures in
    let v = c.product-q.result.value in
    let s = l.k - 1 - a.lead in
    record {
      within = omega arith;
      going =
          going_taken d going c.if-k-eq0.false c.if-work-k-ne0.true c.requires fit v _ (ap (λ (x : Element). x.value) factor_is)
          (c.subtract.ensures ∙ ap (λ (x : Element). less_product x.modulus s v a.divisor.now (set c.steps.work (keys + s) v)) factor_is);
    }

pub returns-clause-steps : goal.returns-clause-steps
returns-clause-steps c =
    let a = c.args in
    let l = c.loop-k in
    let d = setting a.divisor.now a.lead a.inverse a.bound.bits in
    let going = going_on d c.steps.invariant.going l.invariant.within l.invariant.same in
    going_done d going a.ceiling c.steps.invariant.within c.if-k-eq0.true

pub returns-then-not-fits-clause-steps : goal.returns-then-not-fits-clause-steps
returns-then-not-fits-clause-steps c =
    let a = c.args in
    let l = c.loop-k in
    let d = setting a.divisor.now a.lead a.inverse a.bound.bits in
    let going = going_on d c.steps.invariant.going l.invariant.within l.invariant.same in
    let fit : fits d (l.k - 1) ≡ false = cc in
    going_stopped d going c.if-k-eq0.false c.if-work-k-ne0.true a.ceiling c.steps.invariant.within fit

pub returns-then-taken-ceiling-clause-steps : goal.returns-then-taken-ceiling-clause-steps
returns-then-taken-ceiling-clause-steps c =
    let a = c.args in
    let l = c.loop-k in
    let d = setting a.divisor.now a.lead a.inverse a.bound.bits in
    let going = going_on d c.steps.invariant.going l.invariant.within l.invariant.same in
    let fit : fits d (l.k - 1) ≡ true = cc in
    going_cut d going c.if-k-eq0.false c.if-work-k-ne0.true fit a.ceiling c.if-taken-ceiling.true
