-- Polynomials in x, y, z, w: the exponents of a monomial, their lexicographic order, and the coefficient beside one.
use Rattle.std.specs.Prelude.{◌≡◌, ℕ, ◌+◌, ◌≤◌, ◌<◌}
use Rattle.algebra.specs.Ring.{CommRing}
use Rattle.algebra.specs.SeriesRing.{S4}

-- of x, y, z, w
pub record Exponents : Type 0 where
  pub x : ℕ
  pub y : ℕ
  pub z : ℕ
  pub w : ℕ

-- the exponents of a product of monomials
abbrev pub ◌⊞◌ : Exponents → Exponents → Exponents
e ⊞ f = record { x = e.x + f.x; y = e.y + f.y; z = e.z + f.z; w = e.w + f.w }

infixl 60 ◌⊞◌
-- each exponent at most the other's
pub record ◌≼◌ (e f : Exponents) : Type 0 where
  pub x : e.x ≤ f.x
  pub y : e.y ≤ f.y
  pub z : e.z ≤ f.z
  pub w : e.w ≤ f.w

infix 40 ◌≼◌
-- the order x, y, z, w
pub data ◌≺◌ (e f : Exponents) : Type 0 where
  by_x : e.x < f.x → e ≺ f
  by_y : e.x ≡ f.x → e.y < f.y → e ≺ f
  by_z : e.x ≡ f.x → e.y ≡ f.y → e.z < f.z → e ≺ f
  by_w : e.x ≡ f.x → e.y ≡ f.y → e.z ≡ f.z → e.w < f.w → e ≺ f

infix 40 ◌≺◌
module _ (R : CommRing) where
  -- the coefficient beside the monomial with the exponents e
  abbrev pub coef : (S4 R).Car → Exponents → R.Car
  coef f e = f e.x e.y e.z e.w
