-- Evaluations: equal elements have equal values; the values of a product, a constant, a monomial and a power.
use Rattle.std.specs.Prelude.{◌≡◌}
use Rattle.std.proofs.Common.{◌∙◌, subst}
use Rattle.std.proofs.Math.Path.{ap, ap₂}
use Prim.Native.Nat.{ℕ, zero, suc}
use Rattle.algebra.specs.Ring.{CommRing, pow}
use Rattle.algebra.specs.Series.{Seq, tail, constS, conv}
use Rattle.algebra.specs.Domain.{Domain}
use Rattle.algebra.specs.Mono.{mono}
use Rattle.algebra.specs.Evaluation.{Evaluation, coefficients}
use Rattle.algebra.specs.Laws.Degree.{conv_P}
use Rattle.algebra.specs.Laws.Divides.{pow_P}

module _ {R S : CommRing} {D : Domain R} {E : Domain S} (φ : Evaluation R S D E) where
  -- equal elements have equal values
  pub at_equal : {a b : R.Car} (p : D.P a) (q : D.P b) → a ≡ b → φ.fn a p ≡ φ.fn b q
  at_equal {a} {b} p q e = (subst (λ (c : R.Car). (r : D.P c) → φ.fn a p ≡ φ.fn c r) e (φ.same a p)) q

  pub value_null : {a : R.Car} (p : D.P a) → a ≡ R.𝟘 → φ.fn a p ≡ S.𝟘
  value_null p e = at_equal p D.P_zero e ∙ φ.zero D.P_zero

  pub value_conv : (f g : Seq R) (h : (n : ℕ) → D.P (f n)) (k : (n : ℕ) → D.P (g n)) (n : ℕ) (r : D.P (conv R f g n))
      → φ.fn (conv R f g n) r ≡ conv S (coefficients φ f h) (coefficients φ g k) n
  unfolding conv
  value_conv f g h k zero r = φ.mul _ _ (h zero) (k zero) r
  value_conv f g h k (suc n) r =
      φ.add _ _ (D.P_mul _ _ (h zero) (k (suc n))) (conv_P R D (tail f) g (λ i. h (suc i)) k n) r
      ∙ ap₂ S.add (φ.mul _ _ (h zero) (k (suc n)) _) (value_conv (tail f) g (λ i. h (suc i)) k n _)

  pub value_const : (c : R.Car) (pc : D.P c) (n : ℕ) (r : D.P (constS R c n)) → φ.fn (constS R c n) r ≡ constS S (φ.fn c pc) n
  unfolding constS
  value_const c pc zero r = φ.same c r pc
  value_const c pc (suc n) r = φ.zero r

  pub value_mono : (k : ℕ) (c : R.Car) (pc : D.P c) (n : ℕ) (r : D.P (mono R k c n)) → φ.fn (mono R k c n) r ≡ mono S k (φ.fn c pc) n
  unfolding mono
  value_mono zero c pc zero r = φ.same c r pc
  value_mono zero c pc (suc n) r = φ.zero r
  value_mono (suc k) c pc zero r = φ.zero r
  value_mono (suc k) c pc (suc n) r = value_mono k c pc n r

  pub value_pow : (a : R.Car) (pa : D.P a) (n : ℕ) (r : D.P (pow R a n)) → φ.fn (pow R a n) r ≡ pow S (φ.fn a pa) n
  unfolding pow
  value_pow a pa zero r = φ.one r
  value_pow a pa (suc n) r = φ.mul (pow R a n) a (pow_P R D a pa n) pa r ∙ ap (λ (u : S.Car). S.mul u (φ.fn a pa)) (value_pow a pa n _)
