-- What can be wrong with a list of terms, of keys or of point numbers, and the lines 1 to 5 of the table, with which every service begins.
use Rattle.std.specs.Prelude.{◌≡◌, ◌⊎◌, List, [], ◌∷◌, ◌++◌, map, length, get_or, ℕ, suc, ◌≤◌, ◌<◌}
use Rattle.field.specs.Moduli.{Listed}
use Rattle.field.specs.Refusal.{Line, line, whole, first}
use Rattle.field.specs.Numbers.{MODULUS, FIRST_COUNT, FIRST_TERM, SECOND_COUNT, SECOND_TERM}
use Rattle.poly.specs.Keys.{keys}
use Rattle.poly.specs.Terms.{key_of, coefficient_of}

-- the most terms that a list has
abbrev pub most_terms : ℕ
most_terms = 256

-- none, or more than most
abbrev pub Count : ℕ → List ℕ → Type 0
Count most list = (length list ≡ 0) ⊎ (most < length list)

-- a key above 4095, or not below the one before
pub data WrongKey (list : List ℕ) (i : ℕ) : Type 0 where
  above : i < length list → keys ≤ get_or list i 0 → WrongKey list i
  not_below : (before : ℕ) → i ≡ suc before → i < length list → get_or list before 0 ≤ get_or list i 0 → WrongKey list i

-- a term that is wrong without a modulus: its key, or a coefficient 0
pub data WrongTerm (terms : List ℕ) (i : ℕ) : Type 0 where
  wrong_key : WrongKey (map key_of terms) i → WrongTerm terms i
  coefficient_zero : i < length terms → coefficient_of (get_or terms i 0) ≡ 0 → WrongTerm terms i

-- and modulo p: also a coefficient that is at least p
pub data WrongModulo (p : ℕ) (terms : List ℕ) (i : ℕ) : Type 0 where
  wrong_term : WrongTerm terms i → WrongModulo p terms i
  coefficient_large : i < length terms → p ≤ coefficient_of (get_or terms i 0) → WrongModulo p terms i

-- keys strictly falling from below b, coefficients 1 to p - 1
abbrev pub Falling : ℕ → ℕ → List ℕ → Type 0
Falling p b [] = Unit {0}
Falling p b (t ∷ ts) = (key_of t < b) × (0 < coefficient_of t) × (coefficient_of t < p) × Falling p (key_of t) ts

-- a point number that is at least p
pub record WrongNumber (p : ℕ) (numbers : List ℕ) (i : ℕ) : Type 0 where
  pub there : i < length numbers
  pub large : p ≤ get_or numbers i 0

-- the lines of one list, by their two numbers and what is wrong with a term
abbrev pub of_terms : ℕ → ℕ → (ℕ → Type 0) → List ℕ → List Line
of_terms count term Wrong terms = line count (whole (Count most_terms terms)) ∷ line term (first Wrong) ∷ []

-- the lines of the modulus and the two lists
abbrev pub of_lists : ℕ → List ℕ → List ℕ → List Line
of_lists p A B =
    line MODULUS (whole (¬ Listed p))
    ∷ of_terms FIRST_COUNT FIRST_TERM (WrongModulo p A) A ++ of_terms SECOND_COUNT SECOND_TERM (WrongModulo p B) B
