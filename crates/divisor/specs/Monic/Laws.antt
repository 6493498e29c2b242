-- Dropping zero coefficients and dividing by a number: what they do to the polynomial; a polynomial and its monic form divide the same ones.
use Rattle.std.specs.Prelude.{◌≡◌}
use Rattle.std.proofs.Math.Path.{refl, sym, ap, ap₂}
use Rattle.std.proofs.Common.{◌∙◌, subst, add-zero}
use mathlib.Core.List.{[], ◌∷◌, map}
use Prim.Native.Nat.{zero}
use Rattle.algebra.specs.Field.{Field}
use Rattle.algebra.specs.SeriesRing.{SeriesR, S4}
use Rattle.algebra.specs.Polynomials.{D4, domain}
use Rattle.algebra.specs.Mono.{mono}
use Rattle.algebra.specs.Four.{Exponents}
use Rattle.algebra.specs.Monomial.{Term, polynomial, monomial}
use Rattle.algebra.specs.Laws.Ring.{zero_add, zero_mul, one_mul}
use Rattle.algebra.specs.Laws.Field.{inv_nonzero}
use Rattle.algebra.specs.Laws.Solver.{◌⊗◌, ◌≗◌, ring4}
use Rattle.algebra.specs.Laws.Mono.{mono_zero_one}
use Rattle.algebra.specs.Laws.Divides.{div_from}
use Rattle.algebra.specs.Laws.Four.{exponents_path}
use Rattle.algebra.specs.Laws.Monomial.{monomial_mul, monomial_zero, monomial_fin}
use Rattle.poly.specs.Terms.{Polynomial}
use Rattle.poly.specs.Divides.{Divides}
use Rattle.divisor.specs.Rule.{without_zeros, divided_by, made_monic}
use Rattle.divisor.specs.Demands.{LeadsWith, MadeMonic, constant}
use Rattle.divisor.specs.Monic.Value.{zero_dropped, nonzero_kept, NonZero, without_zeros_nonzero}

module _ (K : Field) where
  open K use {ring as R}
  open R use {Car, 𝟘, 𝟙, mul as ◌*◌}

  infixl 70 ◌*◌
  -- the number 1 is the polynomial 1
  pub constant_one : constant K 𝟙 ≡ (S4 R).𝟙
  unfolding monomial
  constant_one =
      ap (λ (u : (SeriesR (SeriesR (SeriesR R))).Car). mono (SeriesR (SeriesR (SeriesR R))) zero u)
      (ap (λ (u : (SeriesR (SeriesR R)).Car). mono (SeriesR (SeriesR R)) zero u)
      (ap (λ (u : (SeriesR R).Car). mono (SeriesR R) zero u) (mono_zero_one R) ∙ mono_zero_one (SeriesR R)) ∙ mono_zero_one (SeriesR (SeriesR R)))
      ∙ mono_zero_one (SeriesR (SeriesR (SeriesR R)))

  -- a number goes into the coefficient
  pub monomial_times : (e : Exponents) (u i : Car) → (S4 R).mul (monomial R e u) (constant K i) ≡ monomial R e (u * i)
  monomial_times e u i = monomial_mul R e _ u i
      ∙ ap (λ (f : Exponents). monomial R f (u * i)) (exponents_path (add-zero e.x) (add-zero e.y) (add-zero e.z) (add-zero e.w))

  pub polynomial_divided : (c : Car) (f : Polynomial K) → polynomial R (divided_by K c f) ≡ (S4 R).mul (polynomial R f) (constant K (K.inv c))
  unfolding polynomial divided_by
  polynomial_divided c [] = sym (zero_mul (S4 R) _)
  polynomial_divided c (t ∷ ts) =
      ap₂ (S4 R).add (sym (monomial_times t.exponents t.coefficient (K.inv c))) (polynomial_divided c ts) ∙ sym ((S4 R).distrib _ _ _)

  polynomial_without_zeros : (f : Polynomial K) → polynomial R (without_zeros K f) ≡ polynomial R f
  unfolding polynomial without_zeros
  polynomial_without_zeros [] = refl
  polynomial_without_zeros (t ∷ ts) = elim (K.decide t.coefficient) [
    | yes e ↦
        let z = ap (monomial R t.exponents) e ∙ monomial_zero R t.exponents in
        rw (zero_dropped K t ts e) (polynomial_without_zeros ts ∙ sym (ap (λ (u : (S4 R).Car). (S4 R).add u (polynomial R ts)) z ∙ zero_add (S4 R) _))
    | no q ↦ rw (nonzero_kept K t ts q) (ap ((S4 R).add (monomial R t.exponents t.coefficient)) (polynomial_without_zeros ts))
  ]

  -- a polynomial over a number that is not 0 divides what it divides
  divided_divides : (c : Car) → ¬ (c ≡ 𝟘) → (f : Polynomial K) (g : (S4 R).Car) → Divides K (polynomial R f) g → Divides K (polynomial R (divided_by K c f)) g
  divided_divides c n f g d = record {
    quo = (S4 R).mul (constant K c) d.quo;
    fin = (D4 R (domain K)).P_mul _ _ (monomial_fin R (domain K) _ c tt) d.fin;
    eq = ap (λ (u : (S4 R).Car). (S4 R).mul u ((S4 R).mul (constant K c) d.quo)) (polynomial_divided c f)
        ∙ ring4 (S4 R) (λ f i c q. f ⊗ i ⊗ (c ⊗ q) ≗ f ⊗ q ⊗ (c ⊗ i)) tt (polynomial R f) (constant K (K.inv c)) (constant K c) d.quo
        ∙ ap₂ (S4 R).mul d.eq (monomial_times _ c (K.inv c) ∙ ap (constant K) (K.mul_inv c n) ∙ constant_one)
        ∙ (S4 R).mul_one g;
  }

  made_monic_divides : (f : Polynomial K) → NonZero K f → (g : (S4 R).Car) → Divides K (polynomial R f) g → Divides K (polynomial R (made_monic K f)) g
  unfolding made_monic
  made_monic_divides [] h g d = d
  made_monic_divides (t ∷ ts) h g d = divided_divides t.coefficient h.0 (t ∷ ts) g d

  -- the monic form divides what the polynomial divides
  pub monic_divides : (f : Polynomial K) (g : (S4 R).Car) → Divides K (polynomial R f) g → Divides K (polynomial R (made_monic K (without_zeros K f))) g
  monic_divides f g d = made_monic_divides (without_zeros K f) (without_zeros_nonzero K f) g
      (div_from (S4 R) (D4 R (domain K)) _ _ g (sym (polynomial_without_zeros f)) d)

  -- a factor that is not 0 makes no difference to the monic form
  inv_of_quotient : (m c : Car) → ¬ (m ≡ 𝟘) → ¬ (c ≡ 𝟘) → K.inv c * K.inv (m * K.inv c) ≡ K.inv m
  inv_of_quotient m c nm nc =
      let I = K.inv (m * K.inv c) in
      sym (one_mul R _) ∙ ap (◌* (K.inv c * I)) (sym (K.mul_inv m nm))
      ∙ ring4 R (λ m n c i. m ⊗ n ⊗ (c ⊗ i) ≗ n ⊗ (m ⊗ c ⊗ i)) tt m (K.inv m) (K.inv c) I
      ∙ ap (K.inv m *◌) (K.mul_inv (m * K.inv c) ((domain K).nzd m (K.inv c) tt tt nm (inv_nonzero K c nc))) ∙ R.mul_one _

  divided_twice : (m c : Car) → ¬ (m ≡ 𝟘) → ¬ (c ≡ 𝟘) → (f : Polynomial K) → divided_by K (m * K.inv c) (divided_by K c f) ≡ divided_by K m f
  unfolding divided_by
  divided_twice m c nm nc [] = refl
  divided_twice m c nm nc (t ∷ ts) = ap₂ ◌∷◌
      (λ i. record { exponents = t.exponents; coefficient = (R.mul_assoc _ _ _ ∙ ap (t.coefficient *◌) (inv_of_quotient m c nm nc)) i })
      (divided_twice m c nm nc ts)

  made_monic_divided : (c : Car) → ¬ (c ≡ 𝟘) → (f : Polynomial K) → NonZero K f → made_monic K (divided_by K c f) ≡ made_monic K f
  unfolding made_monic divided_by
  made_monic_divided c nc [] h = refl
  made_monic_divided c nc (t ∷ ts) h = divided_twice t.coefficient c h.0 nc (t ∷ ts)

  without_zeros_divided : (c : Car) → ¬ (c ≡ 𝟘) → (f : Polynomial K) → without_zeros K (divided_by K c f) ≡ divided_by K c (without_zeros K f)
  unfolding without_zeros divided_by
  without_zeros_divided c nc [] = refl
  without_zeros_divided c nc (t ∷ ts) =
      let over_c : Term R = record { exponents = t.exponents; coefficient = t.coefficient * K.inv c } in
      let later = without_zeros_divided c nc ts in
      elim (K.decide t.coefficient) [
        | yes z ↦ zero_dropped K over_c (divided_by K c ts) (ap (◌* K.inv c) z ∙ zero_mul R _) ∙ later ∙ sym (ap (divided_by K c) (zero_dropped K t ts z))
        | no n ↦
            nonzero_kept K over_c (divided_by K c ts) ((domain K).nzd _ _ tt tt n (inv_nonzero K c nc)) ∙ ap (over_c ∷◌) later
            ∙ sym (ap (divided_by K c) (nonzero_kept K t ts n))
      ]

  -- the monic form of a polynomial and of a multiple are the same
  pub monic_of_multiple : (c : Car) → ¬ (c ≡ 𝟘) → (f : Polynomial K) → made_monic K (without_zeros K (divided_by K c f)) ≡ made_monic K (without_zeros K f)
  monic_of_multiple c nc f =
      ap (made_monic K) (without_zeros_divided c nc f) ∙ made_monic_divided c nc (without_zeros K f) (without_zeros_nonzero K f)

  pub divided_monomials : (c : Car) (f : Polynomial K) → map (λ (t : Term R). t.exponents) (divided_by K c f) ≡ map (λ (t : Term R). t.exponents) f
  unfolding divided_by
  divided_monomials c [] = refl
  divided_monomials c (t ∷ ts) = ap (t.exponents ∷◌) (divided_monomials c ts)

  pub monic_leads : (t : Term R) (ts : Polynomial K) → ¬ (t.coefficient ≡ 𝟘) → LeadsWith K 𝟙 (made_monic K (t ∷ ts))
  unfolding made_monic divided_by
  monic_leads t ts n = K.mul_inv t.coefficient n

  nonzero_made_monic : (f : Polynomial K) → NonZero K f → ¬ (polynomial R f ≡ (S4 R).𝟘) → MadeMonic K (polynomial R f) (made_monic K f)
  unfolding made_monic
  nonzero_made_monic [] h n = absurd (n (unfold polynomial in refl))
  nonzero_made_monic (t ∷ ts) h n = record {
    leading = monic_leads t ts h.0;
    factor = t.coefficient;
    multiple =
        ap (λ (u : (S4 R).Car). (S4 R).mul u (constant K t.coefficient)) (polynomial_divided t.coefficient (t ∷ ts))
        ∙ (S4 R).mul_assoc _ _ _
        ∙ ap ((S4 R).mul (polynomial R (t ∷ ts))) (monomial_times _ (K.inv t.coefficient) t.coefficient
        ∙ ap (constant K) (R.mul_comm _ _ ∙ K.mul_inv t.coefficient h.0) ∙ constant_one)
        ∙ (S4 R).mul_one _;
  }

  -- the monic form of a polynomial that is not 0
  pub monic_is_made_monic : (f : Polynomial K) → ¬ (polynomial R f ≡ (S4 R).𝟘) → MadeMonic K (polynomial R f) (made_monic K (without_zeros K f))
  monic_is_made_monic f n =
      subst (λ (C : (S4 R).Car). MadeMonic K C (made_monic K (without_zeros K f))) (polynomial_without_zeros f)
      (nonzero_made_monic (without_zeros K f) (without_zeros_nonzero K f) (λ e. n (sym (polynomial_without_zeros f) ∙ e)))
