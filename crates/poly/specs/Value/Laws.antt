-- The value of a list of terms is the value of its polynomial, so the value of a product is the product of the values; where it ends.
use Rattle.std.specs.Prelude.{◌≡◌, ℕ, suc, ◌≤◌}
use Rattle.std.proofs.Math.Path.{refl, ap₂}
use Rattle.std.proofs.Common.{◌∙◌, arith}
use mathlib.Core.List.{[], ◌∷◌}
use Rattle.algebra.specs.Ring.{CommRing}
use Rattle.algebra.specs.Field.{Field}
use Rattle.algebra.specs.SeriesRing.{SeriesR, S4}
use Rattle.algebra.specs.Degree.{Ends}
use Rattle.algebra.specs.Domain.{Finite}
use Rattle.algebra.specs.Polynomials.{SeriesD, D4, domain}
use Rattle.algebra.specs.Monomial.{polynomial, monomial}
use Rattle.algebra.specs.Evaluation.{Evaluation}
use Rattle.algebra.specs.Evaluate.{at_point}
use Rattle.algebra.specs.Laws.Mono.{mono_off}
use Rattle.algebra.specs.Laws.Divides.{mono_fin}
use Rattle.algebra.specs.Laws.Monomial.{polynomial_fin, monomial_fin}
use Rattle.algebra.specs.Laws.Evaluate.{at_point_mono}
use Rattle.poly.specs.Terms.{Polynomial}
use Rattle.poly.specs.PointValue.{Point, value, x_degree}

module _ (K : Field) where
  open K use {ring as R}
  open R use {add as ◌+◌}

  infixl 60 ◌+◌
  pub polynomial_finite : (f : Polynomial K) → (D4 R (domain K)).P (polynomial R f)
  polynomial_finite f = polynomial_fin R (domain K) (λ c. tt) f

  pub value_finite : (f : Polynomial K) (at : Point R) → Finite R (domain K) (value R f at)
  unfolding value
  value_finite [] at = (SeriesD R (domain K)).P_zero
  value_finite (t ∷ ts) at = (SeriesD R (domain K)).P_add _ _ (mono_fin R (domain K) t.exponents.x _ tt) (value_finite ts at)

  -- evaluation at the point
  abbrev pub valued : Point R → Evaluation (S4 R) (SeriesR R) (D4 R (domain K)) (SeriesD R (domain K))
  valued at = at_point R (domain K) at.y at.z at.w tt tt tt

  pub value_of_polynomial : (f : Polynomial K) (at : Point R) (h : (D4 R (domain K)).P (polynomial R f))
      → (valued at).fn (polynomial R f) h ≡ value R f at
  unfolding polynomial value monomial
  value_of_polynomial [] at h = (valued at).zero h
  value_of_polynomial (t ∷ ts) at h =
      let e = t.exponents in
      let first = monomial_fin R (domain K) e t.coefficient tt in
      (valued at).add _ _ first (polynomial_finite ts) h
      ∙ ap₂ (SeriesR R).add (at_point_mono R (domain K) at.y at.z at.w tt tt tt e.x e.y e.z e.w t.coefficient tt first)
      (value_of_polynomial ts at (polynomial_finite ts))

  -- no power of x beyond n
  abbrev pub WithinX : ℕ → Polynomial K → Type 0
  WithinX n [] = Unit {0}
  WithinX n (t ∷ ts) = (t.exponents.x ≤ n) × WithinX n ts

  -- no power of x in f is above the first term's, nor above 7
  pub record Bounded (f : Polynomial K) : Type 0 where
    pub by_first : WithinX (x_degree R f) f
    pub by_seven : WithinX 7 f

  abbrev S3 : CommRing
  S3 = SeriesR (SeriesR (SeriesR R))

  pub polynomial_ends : (n : ℕ) (f : Polynomial K) → WithinX n f → Ends S3 (suc n) (polynomial R f)
  unfolding polynomial monomial
  polynomial_ends n [] w k l = refl
  polynomial_ends n (t ∷ ts) w k l =
      ap₂ S3.add (mono_off S3 t.exponents.x _ k (let b : t.exponents.x ≤ n = w.0 in omega arith)) (polynomial_ends n ts w.1 k l) ∙ S3.add_zero _

  pub value_ends : (n : ℕ) (f : Polynomial K) (at : Point R) → WithinX n f → Ends R (suc n) (value R f at)
  unfolding value
  value_ends n [] at w k l = refl
  value_ends n (t ∷ ts) at w k l =
      ap₂ ◌+◌ (mono_off R t.exponents.x _ k (let b : t.exponents.x ≤ n = w.0 in omega arith)) (value_ends n ts at w.1 k l) ∙ R.add_zero _
