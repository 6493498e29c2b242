-- Laws of the product of series: it is commutative, associative and distributive, and a constant multiplies each coefficient.
use Rattle.std.specs.Prelude.{◌≡◌}
use Rattle.std.proofs.Math.Path.{refl, sym, ap, ap₂}
use Rattle.std.proofs.Common.{◌∙◌}
use Prim.Native.Nat.{ℕ, zero, suc}
use Rattle.algebra.specs.Ring.{CommRing}
use Rattle.algebra.specs.Series.{Seq, tail, addS, scale, constS, conv}
use Rattle.algebra.specs.Laws.Ring.{zero_add, add_left_comm, distrib_l, mul_zero}

module _ (R : CommRing) where
  open R use {Car, add as ◌+◌, mul as ◌*◌}

  infixl 60 ◌+◌
  infixl 70 ◌*◌
  conv_right : (f g : Seq R) (n : ℕ) → conv R f g (suc n) ≡ f (suc n) * g zero + conv R f (tail g) n
  unfolding conv
  conv_right f g zero = R.add_comm _ _
  conv_right f g (suc n) = ap (f zero * g (suc (suc n)) +◌) (conv_right (tail f) g n) ∙ add_left_comm R _ _ _

  pub conv_comm : (f g : Seq R) (n : ℕ) → conv R f g n ≡ conv R g f n
  unfolding conv
  conv_comm f g zero = R.mul_comm _ _
  conv_comm f g (suc n) = ap₂ ◌+◌ (R.mul_comm _ _) (conv_comm (tail f) g n) ∙ sym (conv_right g f n)

  conv_scale : (c : Car) (f g : Seq R) (n : ℕ) → conv R (scale R c f) g n ≡ c * conv R f g n
  unfolding conv
  conv_scale c f g zero = R.mul_assoc _ _ _
  conv_scale c f g (suc n) = ap₂ ◌+◌ (R.mul_assoc _ _ _) (conv_scale c (tail f) g n) ∙ sym (distrib_l R _ _ _)

  pub conv_dist : (f g h : Seq R) (n : ℕ) → conv R (addS R f g) h n ≡ conv R f h n + conv R g h n
  unfolding conv
  conv_dist f g h zero = R.distrib _ _ _
  conv_dist f g h (suc n) = ap₂ ◌+◌ (R.distrib _ _ _) (conv_dist (tail f) (tail g) h n)
      ∙ simp (R.add_assoc, R.add_comm)

  pub conv_assoc : (f g h : Seq R) (n : ℕ) → conv R (conv R f g) h n ≡ conv R f (conv R g h) n
  unfolding conv
  conv_assoc f g h zero = R.mul_assoc _ _ _
  conv_assoc f g h (suc n) =
      ap₂ ◌+◌ (R.mul_assoc _ _ _)
      (conv_dist (scale R (f zero) (tail g)) (conv R (tail f) g) h n ∙ ap₂ ◌+◌ (conv_scale (f zero) (tail g) h n) (conv_assoc (tail f) g h n))
      ∙ sym (R.add_assoc _ _ _) ∙ ap (◌+ conv R (tail f) (conv R g h) n) (sym (distrib_l R _ _ _))

  -- multiplication by a constant
  pub conv_const : (c : Car) (f : Seq R) (n : ℕ) → conv R f (constS R c) n ≡ f n * c
  unfolding conv constS
  conv_const c f zero = refl
  conv_const c f (suc n) = ap₂ ◌+◌ (mul_zero R _) (conv_const c (tail f) n) ∙ zero_add R _
