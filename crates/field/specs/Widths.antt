-- The width of what is stored: a wider residue is a change here, of the types in src/sizes.rt and of the list of moduli.
use Rattle.std.specs.Prelude.{ℕ}

-- every residue is below, and so is every listed modulus
abbrev pub residue_limit : ℕ
residue_limit = 65536
