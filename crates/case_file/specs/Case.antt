-- A case: by kind, the records of that kind in their order, each as the list of its numbers.
use Rattle.std.specs.Prelude.{ℕ, true, false, List, [], ◌∷◌, ◌++◌, eqb}

abbrev pub Case : Type 0
Case = ℕ → List (List ℕ)

abbrev pub no_records : Case
no_records k = []

-- a case with further records of kind k
unfoldable pub added : ℕ → List (List ℕ) → Case → Case
added k rs c j = elim (eqb j k) [ true ↦ c j ++ rs | false ↦ c j ]

-- the numbers of records, one after another
unfoldable pub flat : List (List ℕ) → List ℕ
flat [] = []
flat (ns ∷ rs) = ns ++ flat rs
