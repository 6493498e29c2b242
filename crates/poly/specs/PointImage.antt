-- Rules 1 and 2, over any field: bad points, and the image of two polynomials at a good one.
use Rattle.std.specs.Prelude.{◌≡◌, ℕ}
use Rattle.algebra.specs.Field.{Field}
use Rattle.algebra.specs.Series.{Seq}
use Rattle.algebra.specs.SeriesRing.{SeriesR}
use Rattle.algebra.specs.Polynomials.{SeriesD, domain}
use Rattle.algebra.specs.GreatestCommon.{GreatestCommon}
use Rattle.algebra.specs.Univariate.{Monic}
use Rattle.poly.specs.Terms.{Polynomial}
use Rattle.poly.specs.PointValue.{Point, value, x_degree}

-- the x-leading coefficient of f, the number beside its highest power of x, is 0 at the point
abbrev pub LeadVanishes : (K : Field) → Polynomial K → Point K.ring → Type 0
LeadVanishes K f at = value K.ring f at (x_degree K.ring f) ≡ K.ring.𝟘

module _ (K : Field) (A B : Polynomial K) where
  -- 1. A point is bad if the x-leading coefficients of A and of B are both 0 there.
  abbrev pub Bad : Point K.ring → Type 0
  Bad at = LeadVanishes K A at × LeadVanishes K B at

  -- 2. At a good point the image is the monic greatest common divisor of A and B at that point, as polynomials in x.
  -- (If one of the two is 0 there, that is the other's value made monic; at a good point not both are 0.)
  pub record Image (at : Point K.ring) (degree : ℕ) (U : Seq K.ring) : Type 0 where
    pub good : ¬ Bad at
    pub monic : Monic K.ring degree U
    pub greatest : GreatestCommon (SeriesR K.ring) (SeriesD K.ring (domain K)) (value K.ring A at) (value K.ring B at) U
