-- A search for the first wrong place among n, in order: what it has shown when it reaches i.
use Rattle.std.specs.Prelude.{ℕ, ◌≤◌, ◌<◌}

-- none before i is wrong
pub record Searching (Wrong : ℕ → Type 0) (n i : ℕ) : Type 0 where
  pub within : i ≤ n
  pub before : (k : ℕ) → k < i → ¬ Wrong k
