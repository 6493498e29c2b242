-- Degrees: where a series ends, and its top.
use Rattle.std.specs.Prelude.{◌≡◌, ℕ, suc, ◌≤◌}
use Rattle.algebra.specs.Ring.{CommRing}
use Rattle.algebra.specs.Series.{Seq}

-- f is 0 from N on
abbrev pub Ends : (R : CommRing) → ℕ → Seq R → Type 0
Ends R N f = (n : ℕ) → N ≤ n → f n ≡ R.𝟘

-- m is the degree of f: the highest coefficient stands there
pub record Top (R : CommRing) (m : ℕ) (f : Seq R) : Type 0 where
  pub nonzero : ¬ (f m ≡ R.𝟘)
  pub ends : Ends R (suc m) f
