-- Greatest common divisors of two elements.
use Rattle.algebra.specs.Ring.{CommRing}
use Rattle.algebra.specs.Domain.{Domain}
use Rattle.algebra.specs.Divides.{Div}

-- g divides a and b, and each common divisor of a and b divides g
pub record GreatestCommon (R : CommRing) (D : Domain R) (a b g : R.Car) : Type 0 where
  pub left : Div R D g a
  pub right : Div R D g b
  pub most : (e : R.Car) → D.P e → Div R D e a → Div R D e b → Div R D e g
