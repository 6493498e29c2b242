-- Polynomials in one variable over a field: monic ones, one made monic, and the monic greatest common divisor.
use Rattle.std.specs.Prelude.{◌≡◌, ℕ, suc}
use Rattle.algebra.specs.Ring.{CommRing}
use Rattle.algebra.specs.Field.{Field}
use Rattle.algebra.specs.Series.{Seq}
use Rattle.algebra.specs.SeriesRing.{SeriesR}
use Rattle.algebra.specs.Degree.{Ends}
use Rattle.algebra.specs.Domain.{Domain, Finite}
use Rattle.algebra.specs.Polynomials.{domain, SeriesD}
use Rattle.algebra.specs.GreatestCommon.{GreatestCommon}

-- the highest coefficient is 1, and stands at n
pub record Monic (R : CommRing) (n : ℕ) (f : Seq R) : Type 0 where
  pub leads : f n ≡ R.𝟙
  pub ends : Ends R (suc n) f

module _ (F : Field) where
  -- polynomials in one variable, among the series
  abbrev pub Poly : CommRing
  Poly = SeriesR F.ring

  abbrev pub PolyD : Domain Poly
  PolyD = SeriesD F.ring (domain F)

  open F.ring use {mul as ◌*◌}

  infixl 70 ◌*◌
  abbrev pub Fin : Seq F.ring → Type 0
  Fin = Finite F.ring (domain F)

  -- a nonzero polynomial over its highest coefficient
  unfoldable pub over_lead : ℕ → Seq F.ring → Seq F.ring
  over_lead n f = λ i. F.inv (f n) * f i

  -- the monic greatest common divisor of f and g
  pub record MonicGreatest (f g : Seq F.ring) : Type 0 where
    pub degree : ℕ
    pub gcd : Seq F.ring
    pub monic : Monic F.ring degree gcd
    pub greatest : GreatestCommon Poly PolyD f g gcd
