-- What packing a key asks for.
use Rattle.std.specs.Prelude.{ℕ, ◌≤◌}

-- each exponent 0 to 7
pub record Packable (x y z w : ℕ) : Type 0 where
  pub x_small : x ≤ 7
  pub y_small : y ≤ 7
  pub z_small : z ≤ 7
  pub w_small : w ≤ 7
