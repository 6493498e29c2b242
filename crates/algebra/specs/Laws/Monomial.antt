-- The coefficients of a monomial, products and sums of monomials, and that lists of terms mean polynomials.
use Rattle.std.specs.Prelude.{◌≡◌}
use Rattle.std.proofs.Math.Path.{refl, ap, fun_ext}
use Rattle.std.proofs.Common.{sym, ◌∙◌, ap₂, subst}
use mathlib.Core.List.{List, [], ◌∷◌}
use Rattle.algebra.specs.Ring.{CommRing}
use Rattle.algebra.specs.Series.{Seq}
use Rattle.algebra.specs.SeriesRing.{SeriesR, S2, S3, S4}
use Rattle.algebra.specs.Domain.{Domain}
use Rattle.algebra.specs.Polynomials.{D4}
use Rattle.algebra.specs.Four.{Exponents, ◌⊞◌, ◌≺◌, coef}
use Rattle.algebra.specs.Monomial.{monomial, Term, polynomial}
use Rattle.algebra.specs.Laws.Ring.{neg_unique}
use Rattle.algebra.specs.Laws.Mono.{mono_at, mono_either, mono4_mul}
use Rattle.algebra.specs.Laws.Divides.{mono_fin}
use Rattle.algebra.specs.Laws.Four.{exponents_path, same_exponents, below_irreflexive}

module _ (R : CommRing) where
  open R use {Car, 𝟘, add as ◌+◌, mul as ◌*◌}

  infixl 60 ◌+◌
  infixl 70 ◌*◌
  pub monomial_at : (e : Exponents) (u : Car) → coef R (monomial R e u) e ≡ u
  unfolding monomial
  monomial_at e u =
      ap (λ (t : (S3 R).Car). t e.y e.z e.w) (mono_at (S3 R) e.x _)
      ∙ ap (λ (t : (S2 R).Car). t e.z e.w) (mono_at (S2 R) e.y _)
      ∙ ap (λ (t : Seq R). t e.w) (mono_at (SeriesR R) e.z _) ∙ mono_at R e.w u

  pub monomial_off : (e f : Exponents) (u : Car) → ¬ (e ≡ f) → coef R (monomial R e u) f ≡ 𝟘
  unfolding monomial
  monomial_off e f u q =
      mono_either (S3 R) (λ t. t f.y f.z f.w ≡ 𝟘) e.x _ f.x
      (λ x. mono_either (S2 R) (λ t. t f.z f.w ≡ 𝟘) e.y _ f.y
      (λ y. mono_either (SeriesR R) (λ t. t f.w ≡ 𝟘) e.z _ f.z
      (λ z. mono_either R (λ t. t ≡ 𝟘) e.w u f.w (λ w. absurd (q (exponents_path x y z w))) refl) refl) refl) refl

  pub monomial_mul : (e f : Exponents) (u w : Car) → (S4 R).mul (monomial R e u) (monomial R f w) ≡ monomial R (e ⊞ f) (u * w)
  unfolding monomial
  monomial_mul e f u w = mono4_mul R e.x e.y e.z e.w f.x f.y f.z f.w u w

  pub monomial_above : (e f : Exponents) (u : Car) → e ≺ f → coef R (monomial R e u) f ≡ 𝟘
  monomial_above e f u l = monomial_off e f u (λ p. below_irreflexive f (subst (◌≺ f) p l))

  -- two polynomials with the same coefficients
  pub coef_ext : (f g : (S4 R).Car) → ((e : Exponents) → coef R f e ≡ coef R g e) → f ≡ g
  coef_ext f g h = fun_ext λ a. fun_ext λ b. fun_ext λ c. fun_ext λ d. h (record { x = a; y = b; z = c; w = d })

  pub monomial_add : (e : Exponents) (u w : Car) → monomial R e (u + w) ≡ (S4 R).add (monomial R e u) (monomial R e w)
  monomial_add e u w = coef_ext _ _ λ f. go f (same_exponents e f)
    where
      go : (f : Exponents) → Dec (e ≡ f) → coef R (monomial R e (u + w)) f ≡ coef R (monomial R e u) f + coef R (monomial R e w) f
      go f (yes p) = subst (λ (g : Exponents). coef R (monomial R e (u + w)) g ≡ coef R (monomial R e u) g + coef R (monomial R e w) g) p
          (monomial_at e (u + w) ∙ sym (ap₂ ◌+◌ (monomial_at e u) (monomial_at e w)))
      go f (no q) = monomial_off e f (u + w) q ∙ sym (ap₂ ◌+◌ (monomial_off e f u q) (monomial_off e f w q) ∙ R.add_zero 𝟘)

  pub monomial_zero : (e : Exponents) → monomial R e 𝟘 ≡ (S4 R).𝟘
  monomial_zero e = coef_ext _ _ λ f. go f (same_exponents e f)
    where
      go : (f : Exponents) → Dec (e ≡ f) → coef R (monomial R e 𝟘) f ≡ 𝟘
      go f (yes p) = subst (λ (g : Exponents). coef R (monomial R e 𝟘) g ≡ 𝟘) p (monomial_at e 𝟘)
      go f (no q) = monomial_off e f 𝟘 q

  pub monomial_neg : (e : Exponents) (u : Car) → monomial R e (R.neg u) ≡ (S4 R).neg (monomial R e u)
  monomial_neg e u = neg_unique (S4 R) (monomial R e u) (monomial R e (R.neg u))
      (sym (monomial_add e u (R.neg u)) ∙ ap (monomial R e) (R.add_neg u) ∙ monomial_zero e)

  pub monomial_fin : (D : Domain R) (e : Exponents) (u : Car) → D.P u → (D4 R D).P (monomial R e u)
  unfolding monomial
  monomial_fin D e u pu = mono_fin _ _ e.x _ (mono_fin _ _ e.y _ (mono_fin _ _ e.z _ (mono_fin R D e.w u pu)))

module _ (R : CommRing) where
  pub polynomial_fin : (D : Domain R) → ((c : R.Car) → D.P c) → (ts : List (Term R)) → (D4 R D).P (polynomial R ts)
  unfolding polynomial
  polynomial_fin D every [] = (D4 R D).P_zero
  polynomial_fin D every (t ∷ ts) = (D4 R D).P_add _ _ (monomial_fin R D t.exponents t.coefficient (every _)) (polynomial_fin D every ts)
