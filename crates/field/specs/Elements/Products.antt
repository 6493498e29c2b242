-- A product of two numbers below m, with a third added too, is below the square of m; so it fits twice the width of a residue, and its remainder fits that.
use Rattle.std.specs.Prelude.{ℕ, zero, suc, ◌+◌, ◌*◌, ◌%◌, ◌≤◌, ◌<◌}
use Rattle.std.proofs.Common.{arith, mul-le-mul, mul-suc, suc-mul, mod-lt, Fits}
use Rattle.std.specs.Int.{w32 as wide_width}
use Rattle.field.specs.Widths.{residue_limit}

below_square : (m r a b : ℕ) → r < m → a < m → b < m → r + a * b < m * m
below_square zero r a b hr ha hb = absurd (omega arith)
below_square (suc k) r a b hr ha hb =
    let product : a * b ≤ k * k = mul-le-mul {n₁ = a} {m₁ = b} {n₂ = k} {m₂ = k} (omega arith) (omega arith) in
    omega (arith, mul-suc (suc k) k, suc-mul k k)

pub product_fits : (a b : ℕ) → a < residue_limit → b < residue_limit → Fits wide_width (a * b)
product_fits a b h k = let l = below_square residue_limit 0 a b (omega arith) h k in record { fits = omega arith }

pub plus_product_fits : (r a b : ℕ) → r < residue_limit → a < residue_limit → b < residue_limit → Fits wide_width (r + a * b)
plus_product_fits r a b l h k = record { fits = below_square residue_limit r a b l h k }

pub remainder_fits : (n p : ℕ) → 0 < p → p < residue_limit → n % p < residue_limit
remainder_fits n p pos h = let m = mod-lt n pos in omega arith
