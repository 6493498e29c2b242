-- The moduli: one table.
use Rattle.std.specs.Prelude.{◌≡◌, Bool, true, false, ◌||◌, List, [], ◌∷◌, ℕ, eqb}

abbrev pub moduli : List ℕ
moduli = 7 ∷ 13 ∷ 17 ∷ 101 ∷ 32003 ∷ 65521 ∷ []

abbrev pub among : ℕ → List ℕ → Bool
among p [] = false
among p (m ∷ ms) = eqb p m || among p ms

unfoldable pub listed : ℕ → Bool
listed p = among p moduli

abbrev pub Listed : ℕ → Type 0
Listed p = listed p ≡ true
