-- The operations of `Element` in plain numbers, where their operands are given so.
use Rattle.std.specs.Prelude.{◌≡◌, ℕ, ◌+◌, ◌-◌, ◌*◌, ◌%◌, ◌≤◌, ◌<◌}
use Rattle.std.proofs.Common.{sym, ◌∙◌, subst}
use Rattle.field.specs.Contract.{element, product_of, plus_product_of, Subtracts, minus_product_of}
use Rattle.field.specs.declared.elements.Element.{Element}

pub has_modulus : {p a : ℕ} {x : Element} → x ≡ element p a → 0 < p → 0 < x.modulus
has_modulus {p} e h = subst (λ (x : Element). 0 < x.modulus) (sym e) h

module _ {p a b : ℕ} {x y : Element} (ex : x ≡ element p a) (ey : y ≡ element p b) where
  pub product_is : {r : Element} → r ≡ product_of x y → r ≡ element p ((a * b) % p)
  product_is e = e ∙ (λ i. product_of (ex i) (ey i))

  module _ {c : ℕ} {s : Element} (es : s ≡ element p c) where
    pub plus_product_is : {r : Element} → r ≡ plus_product_of s x y → r ≡ element p ((c + a * b) % p)
    plus_product_is e = e ∙ (λ i. plus_product_of (es i) (ex i) (ey i))

    pub minus_product_is : {r : Element} → r ≡ minus_product_of s x y → r ≡ element p ((c + (p - a) * b) % p)
    minus_product_is e = e ∙ (λ i. minus_product_of (es i) (ex i) (ey i))

pub can_subtract : {p a c : ℕ} {s x : Element} → s ≡ element p c → x ≡ element p a → 0 < p → a ≤ p → Subtracts s x
can_subtract {p} {a} {c} {s} {x} es ex h l = rw (es, ex) (record { positive = h; within = l })
