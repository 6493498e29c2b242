-- `poly::division::divide` meets its contract, from what its calls say: the test of the greatest exponents, the setting, the dividend spread, and the steps.
use Rattle.std.proofs.Common.{◌≡◌, refl, ap, ap₂, ◌∙◌, List, ℕ, ◌+◌, ◌-◌, true, false, get_or, arith}
use Rattle.field.specs.Fp.{el, inv}
use Rattle.field.specs.declared.elements.Element.{Element}
use Rattle.poly.specs.Keys.{keys}
use Rattle.poly.specs.Terms.{key_of, coefficient_of}
use Rattle.poly.specs.List.Falling.{falling_keys}
use Rattle.poly.specs.Key.Difference.{at_most_key}
use Rattle.poly.specs.Division.Begins.{begun_wide, lead_inverse_is, begun_can_step, begun_ends}
use Rattle.poly.specs.Division.Model.{most_key, at_most, Setting, setting}
use Rattle.poly.proofs.division.divide.Goals as goal

-- what the steps are given is the setting of the two lists
setting_is : (d : Setting) (p : ℕ) (f g : List ℕ) → d.modulus ≡ p → d.terms ≡ g → d.lead ≡ key_of (get_or g 0 0)
    → d.inverse ≡ (inv (el p (coefficient_of (get_or g 0 0)))).val → d.bound ≡ most_key f - most_key g → d ≡ setting p f g
setting_is d p f g modulus terms lead inverse bound =
    λ i. record { modulus = modulus i; terms = terms i; lead = lead i; inverse = inverse i; bound = bound i }

pub most-above-requires : goal.most-above-requires
most-above-requires c = falling_keys c.args.p keys c.args.dividend.now c.requires.lists.dividend_falls

pub most-below-requires : goal.most-below-requires
most-below-requires c = falling_keys c.args.p keys c.args.divisor.now c.requires.lists.divisor_falls

pub returns-then-not-at_most-clause-division : goal.returns-then-not-at_most-clause-division
returns-then-not-at_most-clause-division c =
    let a = c.args in
    let wide : at_most (most_key a.divisor.now) (most_key a.dividend.now) ≡ false = cc in
    begun_wide a.p a.dividend.now a.divisor.now a.work.now c.requires.lists wide a.ceiling

pub overflow_sub-bound : goal.overflow_sub-bound
overflow_sub-bound c = at_most_key _ _ (cc)

pub spread-requires : goal.spread-requires
spread-requires c = λ i h. omega (arith, falling_keys c.args.p keys c.args.dividend.now c.requires.lists.dividend_falls i h)

pub steps-requires : goal.steps-requires
steps-requires c =
    let a = c.args in
    let r = c.inverse-inverse.result in
    let d : Setting =
    record {
      modulus = r.modulus;
      terms = a.divisor.now;
      lead = c.of-lead.result.bits;
      inverse = r.value;
      bound = c.most-above.result.bits - c.most-below.result.bits;
    } in
    let same = ap (λ (v : Element). v.modulus) c.of-coefficient.ensures in
    let is =
    setting_is d a.p a.dividend.now a.divisor.now (c.inverse-inverse.ensures.same ∙ same) refl c.of-lead.ensures
    (lead_inverse_is a.p a.dividend.now a.divisor.now a.work.now c.requires.lists _ same
    (ap (λ (v : Element). v.value) c.of-coefficient.ensures ∙ c.coefficient_of.ensures) r c.inverse-inverse.ensures)
    (ap₂ ◌-◌ c.most-above.ensures c.most-below.ensures) in
    begun_can_step a.p a.dividend.now a.divisor.now a.work.now c.requires.lists d is _ c.spread.ensures c.requires.empty _
    (ap (λ (k : ℕ). k + 1) c.of-highest.ensures)

pub returns-clause-division : goal.returns-clause-division
returns-clause-division c =
    let a = c.args in
    let r = c.inverse-inverse.result in
    let d : Setting =
    record {
      modulus = r.modulus;
      terms = a.divisor.now;
      lead = c.of-lead.result.bits;
      inverse = r.value;
      bound = c.most-above.result.bits - c.most-below.result.bits;
    } in
    let same = ap (λ (v : Element). v.modulus) c.of-coefficient.ensures in
    let is =
    setting_is d a.p a.dividend.now a.divisor.now (c.inverse-inverse.ensures.same ∙ same) refl c.of-lead.ensures
    (lead_inverse_is a.p a.dividend.now a.divisor.now a.work.now c.requires.lists _ same
    (ap (λ (v : Element). v.value) c.of-coefficient.ensures ∙ c.coefficient_of.ensures) r c.inverse-inverse.ensures)
    (ap₂ ◌-◌ c.most-above.ensures c.most-below.ensures) in
    let narrow : at_most (most_key a.divisor.now) (most_key a.dividend.now) ≡ true = cc in
    begun_ends a.p a.dividend.now a.divisor.now a.work.now c.requires.lists d is _ c.spread.ensures narrow a.ceiling _ _ c.steps.ensures.steps
