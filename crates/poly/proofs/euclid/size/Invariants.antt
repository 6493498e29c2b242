-- The loop keeps the model's answer: the size is the size among the numbers that are left.
use Rattle.std.proofs.Common.{◌≡◌, List, ℕ, ◌≤◌}
use Rattle.poly.specs.Euclid.Model.{size_to, size}
use Rattle.poly.proofs.euclid.size.Given as goal

pub record Sizing (f : List ℕ) (place : ℕ) : Type 0 where
  pub within : place ≤ 8
  pub same : size f ≡ size_to place f

abbrev pub invariant-loop-i : goal.invariant-loop-i
invariant-loop-i l = Sizing l.f l.i
