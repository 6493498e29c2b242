-- Linear equations over a field. An equation is a row with an entry for each unknown and a last entry, which belongs to one more unknown that is fixed at 1:
-- the system is homogeneous. Its solutions: none, one only, or different ones.
use Rattle.std.specs.Prelude.{◌≡◌, List, [], ◌∷◌, ℕ, length}
use Rattle.algebra.specs.Field.{Field}

-- what may be said of a system: no solution, one, or two different ones
pub data Solutions (A : Type 0) : Type 0 where
  unsolvable : Solutions A
  one : List A → Solutions A
  several : List A → List A → Solutions A

module _ (K : Field) where
  open K.ring use {Car, 𝟘, add as ◌+◌, mul as ◌*◌}

  infixl 60 ◌+◌
  infixl 70 ◌*◌
  -- a row a₁ .. aₙ b at v₁ .. vₙ is a₁v₁ + .. + aₙvₙ + b
  abbrev pub eval : List Car → List Car → Car
  eval [] v = 𝟘
  eval (a ∷ r) [] = a
  eval (a ∷ r) (x ∷ v) = a * x + eval r v

  -- v solves the row r; all rows
  abbrev pub Solves : List Car → List Car → Type 0
  Solves v r = eval r v ≡ 𝟘

  abbrev pub SolvesAll : List Car → List (List Car) → Type 0
  SolvesAll v [] = Unit {0}
  SolvesAll v (r ∷ rs) = Solves v r × SolvesAll v rs

  -- n numbers that solve all rows
  pub record Solution (n : ℕ) (rows : List (List Car)) (v : List Car) : Type 0 where
    pub unknowns : length v ≡ n
    pub solves : SolvesAll v rows

  abbrev pub NoSolution : ℕ → List (List Car) → Type 0
  NoSolution n rows = (v : List Car) → ¬ Solution n rows v

  abbrev pub OnlySolution : ℕ → List (List Car) → List Car → Type 0
  OnlySolution n rows v = Solution n rows v × ((w : List Car) → Solution n rows w → w ≡ v)

  abbrev pub DifferentSolutions : ℕ → List (List Car) → List Car → List Car → Type 0
  DifferentSolutions n rows v w = Solution n rows v × Solution n rows w × (¬ (v ≡ w))

  -- what an answer says of the equations
  abbrev pub Meets : ℕ → List (List Car) → Solutions Car → Type 0
  Meets n rows unsolvable = NoSolution n rows
  Meets n rows (one v) = OnlySolution n rows v
  Meets n rows (several v w) = DifferentSolutions n rows v w
