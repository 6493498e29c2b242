-- Where products of series end, the top of a product, and that finite series are finite again, are 0 or have a top, and have no zero divisors.
use Rattle.std.specs.Prelude.{◌≡◌, ◌⊎◌}
use Rattle.std.proofs.Math.Path.{refl, ap, ap₂, fun_ext}
use Rattle.std.proofs.Common.{sym, ◌∙◌, inl, inr, arith}
use Prim.Native.Nat.{ℕ, zero, suc, ◌+◌ as ◌+ₙ◌, ◌≤◌}
use Rattle.std.proofs.Math.Nat.{suc-add, zero-add as zero_addₙ}
use Rattle.std.proofs.Math.Decide.{ℕ_discrete}
use Rattle.algebra.specs.Ring.{CommRing}
use Rattle.algebra.specs.Series.{Seq, tail, zeroS, constS, conv}
use Rattle.algebra.specs.Degree.{Ends, Top}
use Rattle.algebra.specs.Domain.{Domain, Finite}
use Rattle.algebra.specs.Laws.Ring.{zero_add, zero_mul, mul_zero}

module _ (R : CommRing) where
  open R use {Car, 𝟘, add as ◌+◌, mul as ◌*◌}

  infixl 60 ◌+◌
  infixl 70 ◌*◌
  pub conv_null : (f g : Seq R) → ((n : ℕ) → f n ≡ 𝟘) → (n : ℕ) → conv R f g n ≡ 𝟘
  unfolding conv
  conv_null f g z zero = ap (◌* g zero) (z zero) ∙ zero_mul R _
  conv_null f g z (suc n) =
      ap₂ ◌+◌ (ap (◌* g (suc n)) (z zero) ∙ zero_mul R _) (conv_null (tail f) g (λ k. z (suc k)) n) ∙ R.add_zero _

  pub Ends_tail : (N : ℕ) (f : Seq R) → Ends R (suc N) f → Ends R N (tail f)
  Ends_tail N f h n l = h (suc n) (omega arith)

  pub Ends_weaken : (M N : ℕ) (f : Seq R) → M ≤ N → Ends R M f → Ends R N f
  Ends_weaken M N f l h n k = h n (omega arith)

  pub conv_ends : (M N : ℕ) (f g : Seq R) → Ends R M f → Ends R N g → (k : ℕ) → M +ₙ N ≤ suc k → conv R f g k ≡ 𝟘
  unfolding conv
  conv_ends zero N f g hf hg k l = conv_null f g (λ n. hf n (omega arith)) k
  conv_ends (suc M) N f g hf hg zero l = ap (f zero *◌) (hg zero (omega arith)) ∙ mul_zero R _
  conv_ends (suc M) N f g hf hg (suc k) l =
      ap₂ ◌+◌ (ap (f zero *◌) (hg (suc k) (omega arith)) ∙ mul_zero R _)
      (conv_ends M N (tail f) g (Ends_tail M f hf) hg k (omega arith)) ∙ R.add_zero _

  pub conv_first : (f g : Seq R) → Ends R 1 f → (n : ℕ) → conv R f g n ≡ f zero * g n
  unfolding conv
  conv_first f g h zero = refl
  conv_first f g h (suc n) = ap (f zero * g (suc n) +◌) (conv_null (tail f) g (λ k. h (suc k) (omega arith)) n) ∙ R.add_zero _

  pub conv_top : (m n : ℕ) (f g : Seq R) → Ends R (suc m) f → Ends R (suc n) g → conv R f g (m +ₙ n) ≡ f m * g n
  unfolding conv
  conv_top zero n f g hf hg = rw zero_addₙ (conv_first f g hf n)
  conv_top (suc m) n f g hf hg = rw suc-add
      (ap₂ ◌+◌ (ap (f zero *◌) (hg (suc (m +ₙ n)) (omega arith)) ∙ mul_zero R _) (conv_top m n (tail f) g (Ends_tail (suc m) f hf) hg)
      ∙ zero_add R _)

  pub const_ends : (c : Car) → Ends R 1 (constS R c)
  unfolding constS
  const_ends c zero l = absurd (omega arith)
  const_ends c (suc n) l = refl

  Ends_pred : (N : ℕ) (f : Seq R) → Ends R (suc N) f → f N ≡ 𝟘 → Ends R N f
  Ends_pred N f h e n l = elim (ℕ_discrete n N) [ yes p ↦ ap f p ∙ e | no q ↦ h n (omega arith) ]

  -- a series that ends and whose coefficients can be tested is zero or has a top
  find_top : (N : ℕ) (f : Seq R) → Ends R N f → ((n : ℕ) → Dec (f n ≡ 𝟘)) → ((n : ℕ) → f n ≡ 𝟘) ⊎ ((m : ℕ) × Top R m f)
  find_top zero f h d = inl λ n. h n (omega arith)
  find_top (suc N) f h d = go (d N) λ e. find_top N f (Ends_pred N f h e) d
    where
      go : Dec (f N ≡ 𝟘) → (f N ≡ 𝟘 → ((n : ℕ) → f n ≡ 𝟘) ⊎ ((m : ℕ) × Top R m f)) → ((n : ℕ) → f n ≡ 𝟘) ⊎ ((m : ℕ) × Top R m f)
      go (yes e) k = k e
      go (no q) k = inr (N, record { nonzero = q; ends = h })

module _ (R : CommRing) (D : Domain R) where
  open R use {Car, 𝟘, 𝟙}
  open D use {P}

  pub top_mul : (m n : ℕ) (f g : Seq R) → P (f m) → P (g n) → Top R m f → Top R n g → Top R (m +ₙ n) (conv R f g)
  top_mul m n f g pf pg tf tg = record {
    nonzero = λ e. D.nzd (f m) (g n) pf pg tf.nonzero tg.nonzero (sym (conv_top R m n f g tf.ends tg.ends) ∙ e);
    ends = λ k l. conv_ends R (suc m) (suc n) f g tf.ends tg.ends k (omega arith);
  }

  pub finite_top : (f : Seq R) → Finite R D f → ((n : ℕ) → f n ≡ 𝟘) ⊎ ((m : ℕ) × Top R m f)
  finite_top f h = find_top R h.bound f h.ends (λ n. D.dec0 (f n) (h.coef n))

  pub conv_P : (f g : Seq R) → ((n : ℕ) → P (f n)) → ((n : ℕ) → P (g n)) → (n : ℕ) → P (conv R f g n)
  unfolding conv
  conv_P f g pf pg zero = D.P_mul _ _ (pf zero) (pg zero)
  conv_P f g pf pg (suc n) = D.P_add _ _ (D.P_mul _ _ (pf zero) (pg (suc n))) (conv_P (tail f) g (λ k. pf (suc k)) pg n)

  pub const_P : (c : Car) → P c → (n : ℕ) → P (constS R c n)
  unfolding constS
  const_P c p zero = p
  const_P c p (suc n) = D.P_zero

  pub series_dec0 : (f : Seq R) → Finite R D f → Dec (f ≡ zeroS R)
  series_dec0 f h = elim (finite_top f h) [ inl z ↦ yes (fun_ext z) | inr t ↦ no λ e. t.1.nonzero (ap (λ (u : Seq R). u t.0) e) ]

  pub series_top : (f : Seq R) → Finite R D f → ¬ (f ≡ zeroS R) → (m : ℕ) × Top R m f
  series_top f h ne = elim (finite_top f h) [ inl z ↦ absurd (ne (fun_ext z)) | inr t ↦ t ]

  pub series_nzd : (f g : Seq R) → Finite R D f → Finite R D g → ¬ (f ≡ zeroS R) → ¬ (g ≡ zeroS R) → ¬ (conv R f g ≡ zeroS R)
  series_nzd f g hf hg nf ng e =
      let s = series_top f hf nf in
      let t = series_top g hg ng in
      (top_mul s.0 t.0 f g (hf.coef s.0) (hg.coef t.0) s.1 t.1).nonzero (ap (λ (u : Seq R). u (s.0 +ₙ t.0)) e)

  pub series_one≢0 : ¬ (constS R 𝟙 ≡ zeroS R)
  unfolding constS
  series_one≢0 e = D.one≢0 (ap (λ (u : Seq R). u zero) e)
