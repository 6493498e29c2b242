-- Laws of commutative rings, from the axioms.
use Rattle.std.specs.Prelude.{◌≡◌}
use Rattle.std.proofs.Common.{sym, ◌∙◌, ap, ap₂}
use Rattle.algebra.specs.Ring.{CommRing}

module _ (R : CommRing) where
  open R use {Car, 𝟘, 𝟙, add as ◌+◌, mul as ◌*◌, neg}

  infixl 60 ◌+◌
  infixl 70 ◌*◌
  pub zero_add : (a : Car) → 𝟘 + a ≡ a
  zero_add a = R.add_comm _ _ ∙ R.add_zero a

  pub add_left_comm : (a b c : Car) → a + (b + c) ≡ b + (a + c)
  add_left_comm a b c = sym (R.add_assoc a b c) ∙ ap (◌+ c) (R.add_comm a b) ∙ R.add_assoc b a c

  pub mul_left_comm : (a b c : Car) → a * (b * c) ≡ b * (a * c)
  mul_left_comm a b c = sym (R.mul_assoc a b c) ∙ ap (◌* c) (R.mul_comm a b) ∙ R.mul_assoc b a c

  pub one_mul : (a : Car) → 𝟙 * a ≡ a
  one_mul a = R.mul_comm _ _ ∙ R.mul_one a

  pub distrib_l : (a b c : Car) → a * (b + c) ≡ a * b + a * c
  distrib_l a b c = R.mul_comm _ _ ∙ R.distrib b c a ∙ ap₂ ◌+◌ (R.mul_comm _ _) (R.mul_comm _ _)

  pub neg_add : (a : Car) → neg a + a ≡ 𝟘
  neg_add a = R.add_comm _ _ ∙ R.add_neg a

  neg_add_cancel : (a b : Car) → neg a + (a + b) ≡ b
  neg_add_cancel a b = sym (R.add_assoc _ _ _) ∙ ap (◌+ b) (neg_add a) ∙ zero_add b

  pub add_neg_cancel : (a b : Car) → a + (neg a + b) ≡ b
  add_neg_cancel a b = sym (R.add_assoc _ _ _) ∙ ap (◌+ b) (R.add_neg a) ∙ zero_add b

  pub add_cancel : (a b c : Car) → a + b ≡ a + c → b ≡ c
  add_cancel a b c e = sym (neg_add_cancel a b) ∙ ap (neg a +◌) e ∙ neg_add_cancel a c

  pub zero_mul : (a : Car) → 𝟘 * a ≡ 𝟘
  zero_mul a = add_cancel (𝟘 * a) (𝟘 * a) 𝟘
      (sym (R.distrib 𝟘 𝟘 a) ∙ ap (◌* a) (R.add_zero 𝟘) ∙ sym (R.add_zero _))

  pub mul_zero : (a : Car) → a * 𝟘 ≡ 𝟘
  mul_zero a = R.mul_comm _ _ ∙ zero_mul a

  pub neg_unique : (a b : Car) → a + b ≡ 𝟘 → b ≡ neg a
  neg_unique a b e = add_cancel a b (neg a) (e ∙ sym (R.add_neg a))

  pub neg_mul : (a b : Car) → neg a * b ≡ neg (a * b)
  neg_mul a b = neg_unique (a * b) (neg a * b) (sym (R.distrib _ _ _) ∙ ap (◌* b) (R.add_neg a) ∙ zero_mul b)

  pub mul_neg : (a b : Car) → a * neg b ≡ neg (a * b)
  mul_neg a b = R.mul_comm _ _ ∙ neg_mul b a ∙ ap neg (R.mul_comm _ _)

  pub neg_neg : (a : Car) → neg (neg a) ≡ a
  neg_neg a = sym (neg_unique (neg a) a (neg_add a))

  pub neg_zero : neg 𝟘 ≡ 𝟘
  neg_zero = sym (neg_unique 𝟘 𝟘 (R.add_zero 𝟘))

  pub neg_dist : (a b : Car) → neg (a + b) ≡ neg a + neg b
  neg_dist a b = sym (neg_unique (a + b) (neg a + neg b)
      (R.add_assoc _ _ _ ∙ ap (a +◌) (add_left_comm b (neg a) (neg b) ∙ ap (neg a +◌) (R.add_neg b) ∙ R.add_zero _) ∙ R.add_neg a))
