-- Substitution: the value of a series that is cut off; homomorphisms that are defined on the finite elements, whatever their bound;
-- the values of the coefficients under one.
use Rattle.std.specs.Prelude.{◌≡◌, ℕ, zero, suc}
use Rattle.algebra.specs.Ring.{CommRing}
use Rattle.algebra.specs.Series.{Seq, tail}
use Rattle.algebra.specs.Domain.{Domain}

module _ (R : CommRing) where
  open R use {Car, 𝟘, add as ◌+◌, mul as ◌*◌}

  infixl 60 ◌+◌
  infixl 70 ◌*◌
  -- the value of f, cut off at N, at a
  unfoldable pub cut_value : ℕ → Car → Seq R → Car
  cut_value zero a f = 𝟘
  cut_value (suc N) a f = f zero + a * cut_value N a (tail f)

-- a homomorphism on the finite elements; the evidence does not matter
pub record Evaluation (R S : CommRing) (D : Domain R) (E : Domain S) : Type 0 where
  pub fn : (a : R.Car) → D.P a → S.Car
  pub same : (a : R.Car) (p q : D.P a) → fn a p ≡ fn a q
  pub keeps : (a : R.Car) (p : D.P a) → E.P (fn a p)
  pub zero : (p : D.P R.𝟘) → fn R.𝟘 p ≡ S.𝟘
  pub one : (p : D.P R.𝟙) → fn R.𝟙 p ≡ S.𝟙
  pub add : (a b : R.Car) (p : D.P a) (q : D.P b) (r : D.P (R.add a b)) → fn (R.add a b) r ≡ S.add (fn a p) (fn b q)
  pub mul : (a b : R.Car) (p : D.P a) (q : D.P b) (r : D.P (R.mul a b)) → fn (R.mul a b) r ≡ S.mul (fn a p) (fn b q)

module _ {R S : CommRing} {D : Domain R} {E : Domain S} (φ : Evaluation R S D E) where
  -- the values of the coefficients
  abbrev pub coefficients : (f : Seq R) → ((n : ℕ) → D.P (f n)) → Seq S
  coefficients f h = λ n. φ.fn (f n) (h n)
