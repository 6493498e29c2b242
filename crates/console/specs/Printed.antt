-- What is printed of the numbers of a line.
use Rattle.std.specs.Prelude.{ℕ, List, [], ◌∷◌, ◌++◌}
use Rattle.std.specs.List.{flat_map}
use Rattle.std.specs.Fmt.{decimal}

-- a number behind a space
abbrev pub behind_space : ℕ → List ℕ
behind_space n = 32 ∷ decimal n

-- in decimal, with a space between two
abbrev pub spaced : List ℕ → List ℕ
spaced [] = []
spaced (n ∷ ns) = decimal n ++ flat_map behind_space ns
