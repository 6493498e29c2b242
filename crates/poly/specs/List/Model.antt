-- What the check of a list carries along, and what ends the leading part.
use Rattle.std.specs.Prelude.{List, ℕ, zero, suc, ◌<◌, get_or}
use Rattle.poly.specs.Keys.{keys}
use Rattle.poly.specs.Terms.{key_of}
use Rattle.poly.specs.LeadingPart.{x_of}

-- what the key at i has to be below
unfoldable pub key_before : List ℕ → ℕ → ℕ
key_before terms zero = keys
key_before terms (suc i) = key_of (get_or terms i 0)

-- the term at i has a lower power of x than the first
abbrev pub Lower : List ℕ → ℕ → Type 0
Lower terms i = x_of (get_or terms i 0) < x_of (get_or terms 0 0)
