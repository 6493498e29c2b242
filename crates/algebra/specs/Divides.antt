-- Divisibility between finite elements: g divides f if a finite q, of whatever bound, has g q = f.
use Rattle.std.specs.Prelude.{◌≡◌}
use Rattle.algebra.specs.Ring.{CommRing}
use Rattle.algebra.specs.Domain.{Domain}

-- e divides f
pub record Div (R : CommRing) (D : Domain R) (e f : R.Car) : Type 0 where
  pub quo : R.Car
  pub fin : D.P quo
  pub eq : R.mul e quo ≡ f
