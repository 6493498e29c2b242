-- Divisibility of polynomials, over any field.
use Rattle.algebra.specs.Field.{Field}
use Rattle.algebra.specs.Series.{Seq}
use Rattle.algebra.specs.SeriesRing.{SeriesR, S4}
use Rattle.algebra.specs.Polynomials.{SeriesD, D4, domain}
use Rattle.algebra.specs.Divides.{Div}

module _ (K : Field) where
  -- g divides f as a polynomial: some polynomial q, of whatever exponents, has f = g q
  abbrev pub Divides : (S4 K.ring).Car → (S4 K.ring).Car → Type 0
  Divides = Div (S4 K.ring) (D4 K.ring (domain K))

  -- the same of polynomials in x alone
  abbrev pub DividesX : Seq K.ring → Seq K.ring → Type 0
  DividesX = Div (SeriesR K.ring) (SeriesD K.ring (domain K))
