-- The model of a list of terms times a number.
use Rattle.std.specs.Prelude.{List, map, ℕ, ◌*◌, ◌%◌}
use Rattle.poly.specs.Terms.{keyed, key_of, coefficient_of}

-- a term times c modulo p
abbrev pub term_times : ℕ → ℕ → ℕ → ℕ
term_times p c t = keyed (key_of t) ((coefficient_of t * c) % p)

-- each term times c
abbrev pub times : ℕ → ℕ → List ℕ → List ℕ
times p c ts = map (term_times p c) ts
