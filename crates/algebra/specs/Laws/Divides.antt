-- Laws of divisibility between finite elements. A divisor's degree is at most the degree. Constants, monomials and powers are finite.
use Rattle.std.specs.Prelude.{◌≡◌, ◌⊎◌}
use Rattle.std.proofs.Common.{sym, ◌∙◌, ap, ap₂, subst, inl, inr, arith}
use Prim.Native.Nat.{ℕ, zero, suc, ◌+◌ as ◌+ₙ◌, ◌≤◌}
use Rattle.std.proofs.Math.Decide.{dec_le}
use Rattle.algebra.specs.Ring.{CommRing, pow}
use Rattle.algebra.specs.Series.{Seq, constS, conv}
use Rattle.algebra.specs.SeriesRing.{SeriesR}
use Rattle.algebra.specs.Degree.{Top}
use Rattle.algebra.specs.Domain.{Domain, Finite}
use Rattle.algebra.specs.Polynomials.{SeriesD}
use Rattle.algebra.specs.Divides.{Div}
use Rattle.algebra.specs.Mono.{mono}
use Rattle.algebra.specs.Laws.Ring.{zero_add, mul_left_comm, distrib_l, mul_zero, mul_neg}
use Rattle.algebra.specs.Laws.Solver.{◌⊕◌, ◌⊗◌, ◌⊖◌, ◌≗◌, ring2, ring3}
use Rattle.algebra.specs.Laws.Series.{conv_comm}
use Rattle.algebra.specs.Laws.Degree.{conv_null, const_ends, top_mul, finite_top, const_P}
use Rattle.algebra.specs.Laws.Mono.{mono_either, mono_ends}

module _ (R : CommRing) (D : Domain R) where
  open R use {Car, 𝟘, 𝟙, add as ◌+◌, mul as ◌*◌, neg}

  infixl 60 ◌+◌
  infixl 70 ◌*◌
  pub div_refl : (e : Car) → Div R D e e
  div_refl e = record { quo = 𝟙; fin = D.P_one; eq = R.mul_one e }

  pub div_trans : (d e f : Car) → Div R D d e → Div R D e f → Div R D d f
  div_trans d e f p q = record {
    quo = p.quo * q.quo;
    fin = D.P_mul _ _ p.fin q.fin;
    eq = sym (R.mul_assoc _ _ _) ∙ ap (◌* q.quo) p.eq ∙ q.eq;
  }

  pub div_add : (e f g : Car) → Div R D e f → Div R D e g → Div R D e (f + g)
  div_add e f g p q = record {
    quo = p.quo + q.quo;
    fin = D.P_add _ _ p.fin q.fin;
    eq = distrib_l R _ _ _ ∙ ap₂ ◌+◌ p.eq q.eq;
  }

  pub div_mul : (e f c : Car) → D.P c → Div R D e f → Div R D e (c * f)
  div_mul e f c pc p = record {
    quo = c * p.quo;
    fin = D.P_mul _ _ pc p.fin;
    eq = mul_left_comm R _ _ _ ∙ ap (c *◌) p.eq;
  }

  pub div_neg : (e f : Car) → Div R D e f → Div R D e (neg f)
  div_neg e f p = record { quo = neg p.quo; fin = D.P_neg _ p.fin; eq = mul_neg R _ _ ∙ ap neg p.eq }

  pub div_zero : (e : Car) → Div R D e 𝟘
  div_zero e = record { quo = 𝟘; fin = D.P_zero; eq = mul_zero R e }

  pub div_to : (e a b : Car) → a ≡ b → Div R D e a → Div R D e b
  div_to e a b p d = record { quo = d.quo; fin = d.fin; eq = d.eq ∙ p }

  pub div_from : (a b f : Car) → a ≡ b → Div R D a f → Div R D b f
  div_from a b f p d = record { quo = d.quo; fin = d.fin; eq = ap (◌* d.quo) (sym p) ∙ d.eq }

  -- a factor that is not 0 is cancelled
  pub cancel : (a b c : Car) → D.P a → D.P b → D.P c → ¬ (c ≡ 𝟘) → c * a ≡ c * b → a ≡ b
  cancel a b c pa pb pc nc e = elim (D.dec0 (a + neg b) (D.P_add _ _ pa (D.P_neg _ pb))) [
    | yes z ↦ ring2 R (λ a b. a ≗ (a ⊖ b) ⊕ b) tt a b ∙ ap (◌+ b) z ∙ zero_add R b
    | no q ↦ absurd (D.nzd c (a + neg b) pc (D.P_add _ _ pa (D.P_neg _ pb)) nc q
        (ring3 R (λ a b c. c ⊗ (a ⊖ b) ≗ c ⊗ a ⊖ c ⊗ b) tt a b c ∙ ap (◌+ neg (c * b)) e ∙ R.add_neg (c * b)))
  ]

module _ (R : CommRing) where
  open R use {𝟘}

  pub top_le : (m n : ℕ) (f : Seq R) → Top R m f → Top R n f → m ≤ n
  top_le m n f s t = elim (dec_le m n) [ yes l ↦ l | no q ↦ absurd (s.nonzero (t.ends m (omega arith))) ]

  top_unique : (m n : ℕ) (f : Seq R) → Top R m f → Top R n f → m ≡ n
  top_unique m n f s t = let l = top_le m n f s t in let k = top_le n m f t s in omega arith

  module _ (D : Domain R) (m : ℕ) (e f : Seq R) (he : Finite R D e) (d : Div (SeriesR R) (SeriesD R D) e f) (t : Top R m f) where
    product_at : f m ≡ conv R e d.quo m
    product_at = sym (ap (λ (u : Seq R). u m) d.eq)

    -- the degrees of a divisor and of the quotient add up to the degree
    pub quotient_top : (n : ℕ) → Top R n e → (k : ℕ) × (n +ₙ k ≡ m) × Top R k d.quo
    quotient_top n s = go (finite_top R D d.quo d.fin)
      where
        go : ((k : ℕ) → d.quo k ≡ 𝟘) ⊎ ((k : ℕ) × Top R k d.quo) → (k : ℕ) × (n +ₙ k ≡ m) × Top R k d.quo
        go (inl z) = absurd (t.nonzero (product_at ∙ conv_comm R e d.quo m ∙ conv_null R d.quo e z m))
        go (inr u) =
            let both : Top R (n +ₙ u.0) f = subst (Top R (n +ₙ u.0)) d.eq
            (top_mul R D n u.0 e d.quo (he.coef n) (d.fin.coef u.0) s u.1) in
            (u.0, top_unique (n +ₙ u.0) m f both t, u.1)

    -- a divisor's degree is at most the degree
    pub div_top : (n : ℕ) × (n ≤ m) × Top R n e
    div_top = go (finite_top R D e he)
      where
        go : ((n : ℕ) → e n ≡ 𝟘) ⊎ ((n : ℕ) × Top R n e) → (n : ℕ) × (n ≤ m) × Top R n e
        go (inl z) = absurd (t.nonzero (product_at ∙ conv_null R e d.quo z m))
        go (inr s) = let q = quotient_top s.0 s.1 in (s.0, omega (arith, q.1), s.1)

module _ (R : CommRing) (D : Domain R) where
  open R use {Car}
  open D use {P}

  pub const_fin : (c : Car) → P c → Finite R D (constS R c)
  const_fin c pc = record { bound = 1; ends = const_ends R c; coef = const_P R D c pc }

  pub mono_fin : (n : ℕ) (c : Car) → P c → Finite R D (mono R n c)
  mono_fin n c pc = record { bound = suc n; ends = mono_ends R n c; coef = λ k. mono_either R P n c k (λ e. pc) D.P_zero }

  pub pow_P : (c : Car) → P c → (k : ℕ) → P (pow R c k)
  unfolding pow
  pow_P c pc zero = D.P_one
  pow_P c pc (suc k) = D.P_mul _ _ (pow_P c pc k) pc
