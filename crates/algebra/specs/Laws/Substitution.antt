-- The value of a series that is cut off: sums, multiples and products; past the end the cut does not matter.
use Rattle.std.specs.Prelude.{◌≡◌}
use Rattle.std.proofs.Math.Path.{refl, sym, ap, ap₂}
use Rattle.std.proofs.Common.{◌∙◌, arith}
use Prim.Native.Nat.{ℕ, zero, suc, ◌+◌ as ◌+ₙ◌, ◌≤◌}
use Rattle.std.proofs.Math.Nat.{suc-add}
use Rattle.algebra.specs.Ring.{CommRing}
use Rattle.algebra.specs.Series.{Seq, tail, addS, scale, constS, conv}
use Rattle.algebra.specs.Degree.{Ends}
use Rattle.algebra.specs.Domain.{Domain, Finite}
use Rattle.algebra.specs.Evaluation.{cut_value}
use Rattle.algebra.specs.Laws.Ring.{zero_mul, mul_zero}
use Rattle.algebra.specs.Laws.Solver.{◌⊕◌, ◌⊗◌, ◌≗◌, ring4, ring5, ring6}
use Rattle.algebra.specs.Laws.Degree.{conv_null, Ends_tail, const_ends}

module _ (R : CommRing) where
  open R use {Car, 𝟘, add as ◌+◌, mul as ◌*◌}

  infixl 60 ◌+◌
  infixl 70 ◌*◌
  pub cut_null : (N : ℕ) (a : Car) (f : Seq R) → ((n : ℕ) → f n ≡ 𝟘) → cut_value R N a f ≡ 𝟘
  unfolding cut_value
  cut_null zero a f z = refl
  cut_null (suc N) a f z = ap₂ ◌+◌ (z zero) (ap (a *◌) (cut_null N a (tail f) (λ n. z (suc n))) ∙ mul_zero R a) ∙ R.add_zero _

  cut_add_step : (a x y z w : Car) → (x + y) + a * (z + w) ≡ (x + a * z) + (y + a * w)
  cut_add_step = ring5 R (λ a x y z w. (x ⊕ y) ⊕ a ⊗ (z ⊕ w) ≗ (x ⊕ a ⊗ z) ⊕ (y ⊕ a ⊗ w)) tt

  pub cut_add : (N : ℕ) (a : Car) (f g : Seq R) → cut_value R N a (addS R f g) ≡ cut_value R N a f + cut_value R N a g
  unfolding cut_value
  cut_add zero a f g = sym (R.add_zero _)
  cut_add (suc N) a f g = ap (λ u. f zero + g zero + a * u) (cut_add N a (tail f) (tail g)) ∙ cut_add_step _ _ _ _ _

  cut_scale_step : (a c x y : Car) → c * x + a * (c * y) ≡ c * (x + a * y)
  cut_scale_step = ring4 R (λ a c x y. c ⊗ x ⊕ a ⊗ (c ⊗ y) ≗ c ⊗ (x ⊕ a ⊗ y)) tt

  pub cut_scale : (N : ℕ) (a c : Car) (f : Seq R) → cut_value R N a (scale R c f) ≡ c * cut_value R N a f
  unfolding cut_value
  cut_scale zero a c f = sym (mul_zero R c)
  cut_scale (suc N) a c f = ap (λ u. c * f zero + a * u) (cut_scale N a c (tail f)) ∙ cut_scale_step _ _ _ _

  -- past the end nothing is added
  pub cut_past : (M N : ℕ) (a : Car) (f : Seq R) → M ≤ N → Ends R M f → cut_value R N a f ≡ cut_value R M a f
  unfolding cut_value
  cut_past zero N a f l h = cut_null N a f (λ n. h n (omega arith))
  cut_past (suc M) zero a f l h = absurd (omega arith)
  cut_past (suc M) (suc N) a f l h = ap (λ u. f zero + a * u) (cut_past M N a (tail f) (omega arith) (Ends_tail R M f h))

  cut_mul_step : (a x y z u w : Car) → x * y + a * (x * z + u * w) ≡ x * (y + a * z) + a * u * w
  cut_mul_step = ring6 R (λ a x y z u w. x ⊗ y ⊕ a ⊗ (x ⊗ z ⊕ u ⊗ w) ≗ x ⊗ (y ⊕ a ⊗ z) ⊕ a ⊗ u ⊗ w) tt

  pub cut_mul : (M N : ℕ) (a : Car) (f g : Seq R) → Ends R M f → Ends R N g → cut_value R (M +ₙ N) a (conv R f g) ≡ cut_value R M a f * cut_value R N a g
  unfolding cut_value conv
  cut_mul zero N a f g hf hg = cut_null (zero +ₙ N) a (conv R f g) (conv_null R f g (λ n. hf n (omega arith))) ∙ sym (zero_mul R _)
  cut_mul (suc M) N a f g hf hg = rw suc-add
      (ap (λ u. f zero * g zero + a * u)
      (cut_add (M +ₙ N) a (scale R (f zero) (tail g)) (conv R (tail f) g)
      ∙ ap₂ ◌+◌ (cut_scale (M +ₙ N) a (f zero) (tail g)) (cut_mul M N a (tail f) g (Ends_tail R M f hf) hg))
      ∙ cut_mul_step a (f zero) (g zero) (cut_value R (M +ₙ N) a (tail g)) (cut_value R M a (tail f)) (cut_value R N a g)
      ∙ ap (λ u. f zero * u + a * cut_value R M a (tail f) * cut_value R N a g) (cut_past N (suc (M +ₙ N)) a g (omega arith) hg)
      ∙ sym (R.distrib _ _ _))

-- the outermost variable takes the value a
module _ (R : CommRing) (D : Domain R) (a : R.Car) (pa : D.P a) where
  open R use {Car, add as ◌+◌}

  infixl 60 ◌+◌
  -- the cut does not matter past the end
  pub any_cut : (M N : ℕ) (f : Seq R) → Ends R M f → Ends R N f → cut_value R M a f ≡ cut_value R N a f
  any_cut M N f h k = sym (cut_past R M (M +ₙ N) a f (omega arith) h) ∙ cut_past R N (M +ₙ N) a f (omega arith) k

  pub cut_P : (N : ℕ) (f : Seq R) → ((n : ℕ) → D.P (f n)) → D.P (cut_value R N a f)
  unfolding cut_value
  cut_P zero f h = D.P_zero
  cut_P (suc N) f h = D.P_add _ _ (h zero) (D.P_mul _ _ pa (cut_P N (tail f) (λ n. h (suc n))))

  pub evaluate_const : (c : Car) (h : Finite R D (constS R c)) → cut_value R h.bound a (constS R c) ≡ c
  evaluate_const c h = any_cut h.bound 1 (constS R c) h.ends (const_ends R c) ∙ (unfold cut_value constS in ap (c +◌) (mul_zero R a) ∙ R.add_zero c)
