-- The loop keeps the model's answer on the powers that are left.
use Rattle.std.proofs.Common.{◌≡◌, List, ℕ, ◌+◌, ◌-◌, ◌≤◌}
use Rattle.poly.specs.Coefficients.{Eight}
use Rattle.poly.specs.Euclid.Model.{remainder}
use Rattle.poly.proofs.euclid.reduce.Given as goal

pub record Reducing (p m : ℕ) (g : List ℕ) (k₀ : ℕ) (f₀ : List ℕ) (k : ℕ) (f : List ℕ) : Type 0 where
  pub within : k + m ≤ 8
  pub numbers : Eight p f
  pub same : remainder p m g k₀ f₀ ≡ remainder p m g k f

abbrev pub invariant-loop-k : goal.invariant-loop-k
invariant-loop-k l = Reducing l.p l.m l.g (8 - l.m) l.fn.f l.k l.f
