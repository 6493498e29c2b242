-- The leading monomial in the order x, y, z, w.
use Rattle.std.specs.Prelude.{◌≡◌}
use Rattle.algebra.specs.Ring.{CommRing}
use Rattle.algebra.specs.SeriesRing.{S4}
use Rattle.algebra.specs.Four.{Exponents, ◌≺◌, coef}

module _ (R : CommRing) where
  open R use {𝟘}

  -- no monomial of f stands above m
  abbrev pub Upto : Exponents → (S4 R).Car → Type 0
  Upto m f = (e : Exponents) → m ≺ e → coef R f e ≡ 𝟘

  -- m is the leading monomial of f
  pub record Lead (m : Exponents) (f : (S4 R).Car) : Type 0 where
    pub stands : ¬ (coef R f m ≡ 𝟘)
    pub above : Upto m f
