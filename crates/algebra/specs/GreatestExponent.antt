-- The greatest exponent of a polynomial in each of the four variables.
use Rattle.std.specs.Prelude.{◌≡◌, ℕ, ◌<◌}
use Rattle.algebra.specs.Ring.{CommRing}
use Rattle.algebra.specs.SeriesRing.{S4}
use Rattle.algebra.specs.Four.{Exponents, coef}

pub data Variable : Type 0 where
  in_x in_y in_z in_w : Variable

abbrev pub exponent : Variable → Exponents → ℕ
exponent in_x e = e.x
exponent in_y e = e.y
exponent in_z e = e.z
exponent in_w e = e.w

module _ (R : CommRing) where
  -- no monomial of f has a higher exponent than n in v
  abbrev pub Within : Variable → ℕ → (S4 R).Car → Type 0
  Within v n f = (e : Exponents) → n < exponent v e → coef R f e ≡ R.𝟘

  -- n is the greatest exponent of f in v
  pub record GreatestExponent (v : Variable) (n : ℕ) (f : (S4 R).Car) : Type 0 where
    pub within : Within v n f
    pub place : Exponents
    pub reached : exponent v place ≡ n
    pub stands : ¬ (coef R f place ≡ R.𝟘)
