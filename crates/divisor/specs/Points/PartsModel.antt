-- Parts of a list with as many numbers for each index.
use Rattle.std.specs.Prelude.{ℕ, ◌+◌, ◌-◌, ◌*◌, List, length, get_or, take, drop}
use Rattle.field.specs.Loops.Filled.{cells, between}

-- the a numbers of index i
abbrev pub part : ℕ → ℕ → List ℕ → List ℕ
part a i list = take a (drop (a * i) list)

-- the list with n numbers from a place on
abbrev pub stored : ℕ → List ℕ → ℕ → List ℕ → List ℕ
stored n numbers at list = cells (between at (at + n) (λ k. get_or numbers (k - at) 0) list) (length list)
