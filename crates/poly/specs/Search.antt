-- A search for the first wrong place among n, in order: what it gives.
use Rattle.std.specs.Prelude.{ℕ, ◌≤◌, ◌<◌}

-- the first wrong place, or n where none is wrong
pub record Searched (Wrong : ℕ → Type 0) (n place : ℕ) : Type 0 where
  pub within : place ≤ n
  pub before : (k : ℕ) → k < place → ¬ Wrong k
  pub here : place < n → Wrong place
