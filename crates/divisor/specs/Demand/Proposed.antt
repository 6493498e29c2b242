-- A polynomial with only proposed monomials is a list of terms with these monomials.
use Rattle.std.specs.Prelude.{◌≡◌}
use Rattle.std.proofs.Math.Path.{refl, ap, ap₂, subst}
use Rattle.std.proofs.Common.{sym, ◌∙◌, inl, inr}
use mathlib.Core.List.{List, [], ◌∷◌, map}
use Rattle.algebra.specs.Field.{Field}
use Rattle.algebra.specs.SeriesRing.{S4}
use Rattle.algebra.specs.Four.{Exponents, ◌≺◌, coef}
use Rattle.algebra.specs.Monomial.{Term, polynomial}
use Rattle.algebra.specs.Laws.Ring.{zero_add}
use Rattle.algebra.specs.Laws.Four.{same_exponents, below_irreflexive}
use Rattle.algebra.specs.Laws.Monomial.{monomial_at, monomial_off, coef_ext}
use Rattle.field.specs.Faults.Decision.{either_decided}
use Rattle.poly.specs.Terms.{Polynomial}
use Rattle.divisor.specs.Demands.{Proposed, OnlyProposed}

-- all below m
abbrev pub Under : Exponents → List Exponents → Type 0
Under m [] = Unit {0}
Under m (e ∷ es) = (e ≺ m) × Under m es

-- the monomials fall
abbrev pub FallingMonomials : List Exponents → Type 0
FallingMonomials [] = Unit {0}
FallingMonomials (m ∷ ms) = Under m ms × FallingMonomials ms

module _ (K : Field) where
  open K use {ring as R}
  open R use {𝟘, add as ◌+◌}

  proposed? : (ms : List Exponents) (e : Exponents) → Dec (Proposed K ms e)
  proposed? [] e = no λ p. p
  proposed? (m ∷ ms) e = either_decided (same_exponents m e) (proposed? ms e)

  -- a monomial is not among those under it
  not_under : (m : Exponents) (ms : List Exponents) → Under m ms → ¬ Proposed K ms m
  not_under m [] h p = p
  not_under m (e ∷ es) h (inl q) = below_irreflexive m (subst (◌≺ m) q h.0)
  not_under m (e ∷ es) h (inr p) = not_under m es h.1 p

  -- the terms that f has at these monomials
  unfoldable pub terms_at : List Exponents → (S4 R).Car → Polynomial K
  terms_at [] f = []
  terms_at (m ∷ ms) f = record { exponents = m; coefficient = coef R f m } ∷ terms_at ms f

  pub terms_at_monomials : (ms : List Exponents) (f : (S4 R).Car) → map (λ (t : Term R). t.exponents) (terms_at ms f) ≡ ms
  unfolding terms_at
  terms_at_monomials [] f = refl
  terms_at_monomials (m ∷ ms) f = ap (m ∷◌) (terms_at_monomials ms f)

  at_other : (ms : List Exponents) (f : (S4 R).Car) (e : Exponents) → ¬ Proposed K ms e → coef R (polynomial R (terms_at ms f)) e ≡ 𝟘
  unfolding polynomial terms_at
  at_other [] f e n = refl
  at_other (m ∷ ms) f e n =
      ap₂ ◌+◌ (monomial_off R m e _ (λ q. n (inl q))) (at_other ms f e (λ p. n (inr p))) ∙ R.add_zero _

  at_proposed : (ms : List Exponents) → FallingMonomials ms → (f : (S4 R).Car) (e : Exponents) → Proposed K ms e
      → coef R (polynomial R (terms_at ms f)) e ≡ coef R f e
  unfolding polynomial terms_at
  at_proposed [] h f e p = absurd p
  at_proposed (m ∷ ms) h f e (inl q) =
      subst (λ (i : Exponents). coef R (polynomial R (terms_at (m ∷ ms) f)) i ≡ coef R f i) q
      (ap₂ ◌+◌ (monomial_at R m (coef R f m)) (at_other ms f m (not_under m ms h.0)) ∙ R.add_zero _)
  at_proposed (m ∷ ms) h f e (inr p) =
      ap₂ ◌+◌ (monomial_off R m e _ (λ q. not_under m ms h.0 (subst (Proposed K ms) (sym q) p))) (at_proposed ms h.1 f e p) ∙ zero_add R _

  -- such a polynomial is its list
  pub polynomial_of_terms_at : (ms : List Exponents) → FallingMonomials ms → (f : (S4 R).Car) → OnlyProposed K ms f → polynomial R (terms_at ms f) ≡ f
  polynomial_of_terms_at ms falling f only = coef_ext R _ f λ e. elim (proposed? ms e) [
    | yes p ↦ at_proposed ms falling f e p
    | no n ↦ elim (K.decide (coef R f e)) [ yes z ↦ at_other ms f e n ∙ sym z | no q ↦ absurd (n (only e q)) ]
  ]
