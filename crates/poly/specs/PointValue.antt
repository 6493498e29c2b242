-- The value of a list of terms at a point (y, z, w): a polynomial in x. Any number to the power 0 is 1.
use Rattle.std.specs.Prelude.{List, [], ◌∷◌, ℕ}
use Rattle.algebra.specs.Ring.{CommRing, pow}
use Rattle.algebra.specs.Series.{Seq}
use Rattle.algebra.specs.SeriesRing.{SeriesR}
use Rattle.algebra.specs.Mono.{mono}
use Rattle.algebra.specs.Monomial.{Term}

pub record Point (R : CommRing) : Type 0 where
  pub y : R.Car
  pub z : R.Car
  pub w : R.Car

module _ (R : CommRing) where
  open R use {mul as ◌*◌}

  infixl 70 ◌*◌
  -- the number that stands beside a term's power of x
  abbrev pub number_at : Point R → Term R → R.Car
  number_at at t = t.coefficient * pow R at.y t.exponents.y * pow R at.z t.exponents.z * pow R at.w t.exponents.w

  unfoldable pub value : List (Term R) → Point R → Seq R
  value [] at = (SeriesR R).𝟘
  value (t ∷ ts) at = (SeriesR R).add (mono R t.exponents.x (number_at at t)) (value ts at)

  -- the highest power of x, in a list whose monomials fall
  abbrev pub x_degree : List (Term R) → ℕ
  x_degree [] = 0
  x_degree (t ∷ ts) = t.exponents.x
