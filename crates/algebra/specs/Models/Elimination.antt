-- Elimination takes one linear equation after the other into a table, and answers with no solution, one, or two; all of it computes.
use Rattle.std.specs.Prelude.{Bool, true, false, List, [], ◌∷◌, ℕ, zero, suc}
use Rattle.algebra.specs.Field.{Field}
use Rattle.algebra.specs.Linear.{Solutions, unsolvable, one, several, eval}

-- The columns from left to right. In a `pivot` column a row is kept whose first entry, 1, stands there; the entries behind it are held.
-- In a `free` column none is.
-- The last column, of the unknown fixed at 1, is `solvable` while no row is kept in it, and `failed` with one: such a row says 1 = 0.
pub data Table (A : Type 0) : Type 0 where
  solvable : Table A
  failed : Table A
  free : Table A → Table A
  pivot : List A → Table A → Table A

module _ {A : Type 0} where
  -- the table of n unknowns before the first equation
  abbrev pub fresh : ℕ → Table A
  fresh zero = solvable
  fresh (suc n) = free (fresh n)

  abbrev pub has_failed : Table A → Bool
  has_failed solvable = false
  has_failed failed = true
  has_failed (free t) = has_failed t
  has_failed (pivot q t) = has_failed t

  abbrev pub has_free : Table A → Bool
  has_free solvable = false
  has_free failed = false
  has_free (free t) = true
  has_free (pivot q t) = has_free t

module _ (K : Field) where
  open K.ring use {Car, 𝟘, 𝟙, add as ◌+◌, mul as ◌*◌, neg}

  infixl 60 ◌+◌
  infixl 70 ◌*◌
  -- c s
  abbrev pub times : Car → List Car → List Car
  times c [] = []
  times c (b ∷ s) = c * b ∷ times c s

  -- r + c s
  abbrev pub plus_times : List Car → Car → List Car → List Car
  plus_times [] c s = times c s
  plus_times (a ∷ r) c [] = a ∷ r
  plus_times (a ∷ r) c (b ∷ s) = (a + c * b) ∷ plus_times r c s

  -- one more equation: column after column the kept row is taken off, so often that the entry becomes 0; where none is kept and the entry is not 0, it is kept
  abbrev pub step : Table Car → List Car → Table Car
  step solvable [] = solvable
  step failed [] = failed
  step (free t) [] = free t
  step (pivot q t) [] = pivot q t
  step solvable (a ∷ r) = elim (K.decide a) [ yes e ↦ solvable | no e ↦ failed ]
  step failed (a ∷ r) = failed
  step (free t) (a ∷ r) = elim (K.decide a) [ yes e ↦ free (step t r) | no e ↦ pivot (times (K.inv a) r) t ]
  step (pivot q t) (a ∷ r) = pivot q (step t (plus_times r (neg a) q))

  abbrev pub steps : Table Car → List (List Car) → Table Car
  steps t [] = t
  steps t (r ∷ rows) = steps (step t r) rows

  -- the unknown of a kept row before those behind it
  abbrev pub before : List Car → List Car → List Car
  before q v = neg (eval K q v) ∷ v

  -- back substitution, with x for each unknown of a free column
  abbrev pub solution : Car → Table Car → List Car
  solution x solvable = []
  solution x failed = []
  solution x (free t) = x ∷ solution x t
  solution x (pivot q t) = before q (solution x t)

  abbrev pub answer : Table Car → Solutions Car
  answer t = elim (has_failed t) [ true ↦ unsolvable | false ↦ elim (has_free t) [ false ↦ one (solution 𝟘 t) | true ↦ several (solution 𝟘 t) (solution 𝟙 t) ] ]

  -- the answer for n unknowns
  abbrev pub solve : ℕ → List (List Car) → Solutions Car
  solve n rows = answer (steps (fresh n) rows)
