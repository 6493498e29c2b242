-- What the equation table means: the numbers of a row are its entries in the field, the rows on the diagonal are algebra's table, column by column,
-- and a solution says how many solutions the equations have.
use Rattle.std.specs.Prelude.{Bool, true, false, List, [], ◌∷◌, map, ℕ, zero, suc, eqb, get_or}
use Rattle.algebra.specs.Linear.{NoSolution, OnlySolution, DifferentSolutions}
use Rattle.algebra.specs.Models.Elimination.{Table as Equations, solvable, failed, free, pivot}
use Rattle.field.specs.Prime.{Prime}
use Rattle.field.specs.Fp.{Fp, el}
use Rattle.field.specs.Modulo.{Modulo}
use Rattle.divisor.specs.declared.table.Row.{Row}
use Rattle.divisor.specs.declared.table.Table.{Table}
use Rattle.divisor.specs.declared.table.Solution.{Solution}
use Rattle.divisor.specs.declared.table.Solution.TheVariants.{None, One, Several}
use Rattle.divisor.specs.Table.Model.{row_at, diagonal, with_row, RowReady}

-- n numbers from place i on
unfoldable pub entries : (p : ℕ) → List ℕ → ℕ → ℕ → List (Fp p)
entries p l i zero = []
entries p l i (suc n) = el p (get_or l i 0) ∷ entries p l (suc i) n

-- a column by whether the cell on the diagonal is 0, with the entries behind it and the columns behind it
abbrev pub column : {A : Type 0} → Bool → List A → Equations A → Equations A
column true q behind = free behind
column false q behind = pivot q behind

abbrev pub last_column : {A : Type 0} → Bool → Equations A
last_column true = solvable
last_column false = failed

-- the columns from i on, n of them and the last one
unfoldable pub columns_of : (p : ℕ) → Table → ℕ → ℕ → Equations (Fp p)
columns_of p t i zero = last_column (eqb (diagonal t i) 0)
columns_of p t i (suc n) =
    column (eqb (diagonal t i) 0) (entries p (row_at t i).cells (suc i) (suc n)) (columns_of p t (suc i) n)

-- an equation of n unknowns, and a table of them
abbrev pub row_of : (p n : ℕ) → Row → List (Fp p)
row_of p n e = entries p e.cells 0 (suc n)

abbrev pub table_of : (p n : ℕ) → Table → Equations (Fp p)
table_of p n t = columns_of p t 0 n

-- the table after equations, one after the other
unfoldable pub added : ℕ → Table → List Row → Table
added p t [] = t
added p t (e ∷ es) = added p (with_row p t e) es

abbrev pub rows_of : (p n : ℕ) → List Row → List (List (Fp p))
rows_of p n es = map (row_of p n) es

abbrev pub AllReady : ℕ → List Row → Type 0
AllReady p [] = Unit {0}
AllReady p (e ∷ es) = RowReady p e × AllReady p es

-- what a solution says of equations of n unknowns modulo a prime
abbrev pub Says : (p : ℕ) → Prime p → (n : ℕ) → List (List (Fp p)) → Solution → Type 0
Says p P n rows None = NoSolution (Modulo p P) n rows
Says p P n rows (One values) = OnlySolution (Modulo p P) n rows (entries p values 0 n)
Says p P n rows Several = (v w : List (Fp p)) × DifferentSolutions (Modulo p P) n rows v w
