-- Products with c X^n, in one variable and in four; its coefficients.
use Rattle.std.specs.Prelude.{◌≡◌}
use Rattle.std.proofs.Math.Path.{refl, sym, ap, ap₂, fun_ext}
use Rattle.std.proofs.Common.{◌∙◌, arith}
use Prim.Native.Nat.{ℕ, zero, suc, ◌+◌ as ◌+ₙ◌, ◌<◌}
use Rattle.std.proofs.Math.Nat.{suc-add, zero-add as zero_addₙ}
use Rattle.algebra.specs.Ring.{CommRing}
use Rattle.algebra.specs.Series.{Seq, constS, conv}
use Rattle.algebra.specs.SeriesRing.{SeriesR, S2, S3, S4}
use Rattle.algebra.specs.Degree.{Ends}
use Rattle.algebra.specs.Mono.{mono, mono4}
use Rattle.algebra.specs.Laws.Ring.{zero_add, zero_mul, mul_zero}
use Rattle.algebra.specs.Laws.Degree.{conv_null}

module _ (R : CommRing) where
  open R use {Car, 𝟘, add as ◌+◌, mul as ◌*◌}

  infixl 60 ◌+◌
  infixl 70 ◌*◌
  mono_zero_left : (c : Car) (g : Seq R) (k : ℕ) → conv R (mono R zero c) g k ≡ c * g k
  unfolding mono conv
  mono_zero_left c g zero = refl
  mono_zero_left c g (suc k) = ap (c * g (suc k) +◌) (conv_null R (λ n. 𝟘) g (λ n. refl) k) ∙ R.add_zero _

  -- a product with a monomial moves the coefficients up
  pub mono_low : (n : ℕ) (c : Car) (g : Seq R) (k : ℕ) → k < n → conv R (mono R n c) g k ≡ 𝟘
  unfolding mono conv
  mono_low zero c g k l = absurd (omega arith)
  mono_low (suc n) c g zero l = zero_mul R _
  mono_low (suc n) c g (suc k) l = ap₂ ◌+◌ (zero_mul R _) (mono_low n c g k (omega arith)) ∙ R.add_zero _

  pub mono_high : (n : ℕ) (c : Car) (g : Seq R) (k : ℕ) → conv R (mono R n c) g (n +ₙ k) ≡ c * g k
  unfolding mono conv
  mono_high zero c g k = rw zero_addₙ (mono_zero_left c g k)
  mono_high (suc n) c g k = rw suc-add (ap₂ ◌+◌ (zero_mul R _) (mono_high n c g k) ∙ zero_add R _)

  mono_scale : (n : ℕ) (a b : Car) (k : ℕ) → mono R n (a * b) k ≡ a * mono R n b k
  unfolding mono
  mono_scale zero a b zero = refl
  mono_scale zero a b (suc k) = sym (mul_zero R a)
  mono_scale (suc n) a b zero = sym (mul_zero R a)
  mono_scale (suc n) a b (suc k) = mono_scale n a b k

  mono_conv : (m n : ℕ) (a b : Car) (k : ℕ) → conv R (mono R m a) (mono R n b) k ≡ mono R (m +ₙ n) (a * b) k
  unfolding mono conv
  mono_conv zero n a b k = rw zero_addₙ (mono_zero_left a (mono R n b) k ∙ sym (mono_scale n a b k))
  mono_conv (suc m) n a b zero = rw suc-add (zero_mul R _)
  mono_conv (suc m) n a b (suc k) = rw suc-add (ap₂ ◌+◌ (zero_mul R _) (mono_conv m n a b k) ∙ zero_add R _)

  mono_mul : (m n : ℕ) (a b : Car) → conv R (mono R m a) (mono R n b) ≡ mono R (m +ₙ n) (a * b)
  mono_mul m n a b = fun_ext (mono_conv m n a b)

  pub mono_at : (n : ℕ) (c : Car) → mono R n c n ≡ c
  unfolding mono
  mono_at zero c = refl
  mono_at (suc n) c = mono_at n c

  -- what holds of c where the places are equal, and of 0, holds of the coefficient
  pub mono_either : (P : Car → Type 0) (n : ℕ) (c : Car) (k : ℕ) → (n ≡ k → P c) → P 𝟘 → P (mono R n c k)
  unfolding mono
  mono_either P zero c zero here off = here refl
  mono_either P zero c (suc k) here off = off
  mono_either P (suc n) c zero here off = off
  mono_either P (suc n) c (suc k) here off = mono_either P n c k (λ e. here (ap suc e)) off

  pub mono_off : (n : ℕ) (c : Car) (k : ℕ) → ¬ (n ≡ k) → mono R n c k ≡ 𝟘
  mono_off n c k q = mono_either (λ u. u ≡ 𝟘) n c k (λ e. absurd (q e)) refl

  pub mono_ends : (n : ℕ) (c : Car) → Ends R (suc n) (mono R n c)
  mono_ends n c k l = mono_off n c k (omega arith)

  pub mono_times : (n : ℕ) (a c : Car) (k : ℕ) → mono R n (a * c) k ≡ mono R n a k * c
  mono_times n a c k = ap (λ u. mono R n u k) (R.mul_comm a c) ∙ mono_scale n c a k ∙ R.mul_comm _ _

  -- at the power 0 it is the constant
  mono_zero_const : (c : Car) (n : ℕ) → mono R zero c n ≡ constS R c n
  unfolding mono constS
  mono_zero_const c zero = refl
  mono_zero_const c (suc n) = refl

  pub mono_zero_one : mono R zero R.𝟙 ≡ (SeriesR R).𝟙
  mono_zero_one = fun_ext (mono_zero_const R.𝟙)

  pub mono_null : (n : ℕ) (k : ℕ) → mono R n 𝟘 k ≡ 𝟘
  mono_null n k = mono_either (λ u. u ≡ 𝟘) n 𝟘 k (λ e. refl) refl

pub mono4_mul : (R : CommRing) (a b c d a' b' c' d' : ℕ) (u w : R.Car)
    → (S4 R).mul (mono4 R a b c d u) (mono4 R a' b' c' d' w) ≡ mono4 R (a +ₙ a') (b +ₙ b') (c +ₙ c') (d +ₙ d') (R.mul u w)
mono4_mul R a b c d a' b' c' d' u w =
    mono_mul (S3 R) a a' _ _
    ∙ ap (mono (S3 R) (a +ₙ a')) (mono_mul (S2 R) b b' _ _
    ∙ ap (mono (S2 R) (b +ₙ b')) (mono_mul (SeriesR R) c c' _ _
    ∙ ap (mono (SeriesR R) (c +ₙ c')) (mono_mul R d d' u w)))
