-- The loop keeps the model's quotient of what is left.
use Rattle.std.proofs.Common.{◌≡◌, List, ℕ, ◌+◌, ◌≤◌, length}
use Rattle.poly.specs.Coefficients.{Eight}
use Rattle.poly.specs.Euclid.Model.{put_quotient, quotient}
use Rattle.poly.proofs.euclid.divide.Given as goal

pub record Dividing (p m : ℕ) (g f₀ : List ℕ) (k : ℕ) (f q : List ℕ) : Type 0 where
  pub within : k + m ≤ 8
  pub numbers : Eight p f
  pub long : length q ≡ 8
  pub same : quotient p m g f₀ ≡ put_quotient p m g k f q

abbrev pub invariant-loop-k : goal.invariant-loop-k
invariant-loop-k l = Dividing l.p l.m l.g l.fn.f l.k l.f l.q
