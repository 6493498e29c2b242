-- The finite elements of a ring, without zero divisors among them; of series, those that end and have finite coefficients.
use Rattle.std.specs.Prelude.{◌≡◌, ℕ}
use Rattle.algebra.specs.Ring.{CommRing}
use Rattle.algebra.specs.Series.{Seq}
use Rattle.algebra.specs.Degree.{Ends}

-- a subring, of the elements with P, with a decidable zero and no zero divisors; its elements are called finite
pub record Domain (R : CommRing) : Type 1 where
  pub P : R.Car → Type 0
  pub P_zero : P R.𝟘
  pub P_one : P R.𝟙
  pub P_add : (a b : R.Car) → P a → P b → P (R.add a b)
  pub P_mul : (a b : R.Car) → P a → P b → P (R.mul a b)
  pub P_neg : (a : R.Car) → P a → P (R.neg a)
  pub dec0 : (a : R.Car) → P a → Dec (a ≡ R.𝟘)
  pub nzd : (a b : R.Car) → P a → P b → ¬ (a ≡ R.𝟘) → ¬ (b ≡ R.𝟘) → ¬ (R.mul a b ≡ R.𝟘)
  pub one≢0 : ¬ (R.𝟙 ≡ R.𝟘)

module _ (R : CommRing) (D : Domain R) where
  -- f ends, and each coefficient is finite
  pub record Finite (f : Seq R) : Type 0 where
    pub bound : ℕ
    pub ends : Ends R bound f
    pub coef : (n : ℕ) → D.P (f n)
