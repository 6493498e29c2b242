-- A field has no zero divisors, and no inverse is 0.
use Rattle.std.specs.Prelude.{◌≡◌}
use Rattle.std.proofs.Common.{sym, ◌∙◌, ap}
use Rattle.algebra.specs.Field.{Field}
use Rattle.algebra.specs.Laws.Ring.{one_mul, mul_zero}

module _ (K : Field) where
  open K.ring use {Car, 𝟘, mul as ◌*◌}

  infixl 70 ◌*◌
  pub no_zero_divisors : (a b : Car) → ¬ (a ≡ 𝟘) → ¬ (b ≡ 𝟘) → ¬ (a * b ≡ 𝟘)
  no_zero_divisors a b na nb e = nb
      (sym (one_mul K.ring b) ∙ ap (◌* b) (sym (K.ring.mul_comm _ _ ∙ K.mul_inv a na)) ∙ K.ring.mul_assoc _ _ _
      ∙ ap (K.inv a *◌) e ∙ mul_zero K.ring _)

  pub inv_nonzero : (a : Car) → ¬ (a ≡ 𝟘) → ¬ (K.inv a ≡ 𝟘)
  inv_nonzero a n e = K.one≢0 (sym (K.mul_inv a n) ∙ ap (a *◌) e ∙ mul_zero K.ring a)
