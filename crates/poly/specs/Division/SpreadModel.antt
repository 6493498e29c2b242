-- A list of terms spread over cells, one for each key, and gathered from them.
use Rattle.std.specs.Prelude.{List, [], ◌∷◌, true, false, ℕ, zero, suc, eqb, get_or, set}
use Rattle.field.specs.Loops.Fold.{fold}
use Rattle.poly.specs.Terms.{key_of, coefficient_of, keyed}

-- each term's coefficient stored at its key
abbrev pub store : ℕ → List ℕ → List ℕ
store t l = set l (key_of t) (coefficient_of t)

abbrev pub spread : List ℕ → List ℕ → List ℕ
spread ts l = fold store ts l

-- the terms of the cells below k that are not 0, the highest key first
unfoldable pub gathered : ℕ → List ℕ → List ℕ
gathered zero l = []
gathered (suc k) l = elim (eqb (get_or l k 0) 0) [ true ↦ gathered k l | false ↦ keyed k (get_or l k 0) ∷ gathered k l ]
