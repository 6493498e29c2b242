-- How many terms a polynomial has is settled; and a quotient by C has as many terms as the division by C made monic takes steps.
use Rattle.std.specs.Prelude.{◌≡◌, true, length}
use Rattle.std.proofs.Math.Path.{refl, ap}
use Rattle.std.proofs.Common.{sym, ◌∙◌}
use mathlib.Core.List.{List, [], ◌∷◌}
use Prim.Native.Nat.{ℕ, suc}
use Rattle.algebra.specs.Field.{Field}
use Rattle.algebra.specs.SeriesRing.{S4}
use Rattle.algebra.specs.Polynomials.{D4, domain}
use Rattle.algebra.specs.Four.{Exponents}
use Rattle.algebra.specs.Monomial.{Term, polynomial, FallsBelow, Falls}
use Rattle.algebra.specs.Division.{Division}
use Rattle.algebra.specs.Laws.Ring.{zero_mul}
use Rattle.algebra.specs.Laws.Field.{inv_nonzero}
use Rattle.algebra.specs.Laws.Solver.{◌⊗◌, ◌≗◌, ring3}
use Rattle.algebra.specs.Laws.Divides.{cancel}
use Rattle.algebra.specs.Laws.Monomial.{monomial_fin, monomial_zero, polynomial_fin}
use Rattle.algebra.specs.Laws.Division.{division_falls, division_quotient}
use Rattle.algebra.specs.Laws.Falls.{falls_determined}
use Rattle.poly.specs.Terms.{Polynomial}
use Rattle.poly.specs.Divides.{Divides}
use Rattle.poly.specs.Value.Laws.{polynomial_finite}
use Rattle.divisor.specs.Rule.{divided_by}
use Rattle.divisor.specs.Demands.{constant, HasTerms, MadeMonic}
use Rattle.divisor.specs.Monic.Laws.{constant_one, monomial_times, polynomial_divided}

module _ (K : Field) where
  open K use {ring as R}
  open R use {Car, 𝟘, mul as ◌*◌}

  infixl 70 ◌*◌
  -- one count of terms
  pub has_terms_unique : (m n : ℕ) (f : (S4 R).Car) → HasTerms K m f → HasTerms K n f → m ≡ n
  has_terms_unique m n f a b =
      sym a.3 ∙ ap length (falls_determined R a.0 b.0 a.1 b.1 (a.2 ∙ sym b.2)) ∙ b.3

  -- terms that fall, over a number that is not 0
  module _ (c : Car) (nonzero : ¬ (c ≡ 𝟘)) where
    below_divided : (m : Exponents) (ts : Polynomial K) → FallsBelow R m ts → FallsBelow R m (divided_by K c ts)
    unfolding divided_by
    below_divided m [] h = tt
    below_divided m (t ∷ ts) h = (
      h.0,
      (domain K).nzd t.coefficient (K.inv c) tt tt h.1 (inv_nonzero K c nonzero),
      below_divided t.exponents ts h.2,
    )

    falls_divided : (ts : Polynomial K) → Falls R ts → Falls R (divided_by K c ts)
    unfolding divided_by
    falls_divided [] h = tt
    falls_divided (t ∷ ts) h = (
      (domain K).nzd t.coefficient (K.inv c) tt tt h.0 (inv_nonzero K c nonzero),
      below_divided t.exponents ts h.1,
    )

  length_divided : (c : Car) (ts : Polynomial K) → length (divided_by K c ts) ≡ length ts
  unfolding divided_by
  length_divided c [] = refl
  length_divided c (t ∷ ts) = ap suc (length_divided c ts)

  -- C is G times a number; G divides f in the steps qs, and C divides f
  module _ (C : (S4 R).Car) (G : Polynomial K) (monic : MadeMonic K C G) (some : ¬ (C ≡ (S4 R).𝟘)) (f : Polynomial K) (qs : List (Term R))
      (division : Division R (polynomial R f) (polynomial R G) qs true) (divides : Divides K C (polynomial R f)) where
    factor_nonzero : ¬ (monic.factor ≡ 𝟘)
    factor_nonzero z =
        some (sym monic.multiple ∙ ap (λ (u : Car). (S4 R).mul (polynomial R G) (constant K u)) z
        ∙ ap ((S4 R).mul (polynomial R G)) (monomial_zero R _) ∙ (S4 R).mul_comm _ _ ∙ zero_mul (S4 R) _)

    divisor_nonzero : ¬ (polynomial R G ≡ (S4 R).𝟘)
    divisor_nonzero z =
        some (sym monic.multiple ∙ ap (λ (u : (S4 R).Car). (S4 R).mul u (constant K monic.factor)) z ∙ zero_mul (S4 R) _)

    -- the number times the one quotient is the other
    multiple_is : (S4 R).mul (constant K monic.factor) divides.quo ≡ polynomial R qs
    multiple_is =
        cancel (S4 R) (D4 R (domain K)) _ (polynomial R qs) (polynomial R G)
        ((D4 R (domain K)).P_mul _ _ (monomial_fin R (domain K) _ monic.factor tt) divides.fin) (polynomial_fin R (domain K) (λ a. tt) qs)
        (polynomial_finite K G) divisor_nonzero
        (sym ((S4 R).mul_assoc _ _ _) ∙ ap (λ (u : (S4 R).Car). (S4 R).mul u divides.quo) monic.multiple ∙ divides.eq
        ∙ sym (division_quotient R (domain K) (λ a. tt) (polynomial R f) (polynomial R G) qs division))

    pub quotient_terms : HasTerms K (length qs) divides.quo
    quotient_terms = (
      divided_by K monic.factor qs,
      falls_divided monic.factor factor_nonzero qs
          (division_falls R (domain K) (λ a. tt) (polynomial R f) (polynomial R G) qs true division),
      polynomial_divided K monic.factor qs ∙ ap (λ (u : (S4 R).Car). (S4 R).mul u (constant K (K.inv monic.factor))) (sym multiple_is)
          ∙ ring3 (S4 R) (λ c q i. c ⊗ q ⊗ i ≗ q ⊗ (c ⊗ i)) tt (constant K monic.factor) divides.quo (constant K (K.inv monic.factor))
          ∙ ap ((S4 R).mul divides.quo) (monomial_times K _ monic.factor (K.inv monic.factor)
          ∙ ap (constant K) (K.mul_inv monic.factor factor_nonzero) ∙ constant_one K)
          ∙ (S4 R).mul_one _,
      length_divided monic.factor qs,
    )
