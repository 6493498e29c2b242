-- What a call leaves in a list that it is lent to write in.
use Rattle.std.specs.Prelude.{List, ◌++◌, ℕ, length, drop}

-- numbers written first in a list, which leaves the rest
abbrev pub written : List ℕ → List ℕ → List ℕ
written ns out = ns ++ drop (length ns) out
