-- Keys: the monomial x^a y^b z^c w^d, each exponent 0 to 7, has the key 512a + 64b + 8c + d.
use Rattle.std.specs.Prelude.{ℕ, ◌+◌, ◌*◌, ◌/◌, ◌%◌}
use Rattle.algebra.specs.Four.{Exponents}

abbrev pub key : Exponents → ℕ
key e = 512 * e.x + 64 * e.y + 8 * e.z + e.w

abbrev pub exponents : ℕ → Exponents
exponents k = record { x = k / 512; y = k / 64 % 8; z = k / 8 % 8; w = k % 8 }

-- every key is below
abbrev pub keys : ℕ
keys = 4096
