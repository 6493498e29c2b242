-- The equation table in plain numbers, as the code goes through it, and what its functions ask for. Meaning.antt says what it means.
use Rattle.std.specs.Prelude.{◌≡◌, Bool, true, false, not, Option, None as Nothing, Some, List, [], ℕ, zero, suc, ◌+◌, ◌-◌, ◌*◌, ◌%◌, ◌<◌, ◌≤◌, eqb, length, get_or, set, replicate}
use Rattle.field.specs.Moduli.{Listed}
use Rattle.field.specs.Fp.{el, inv}
use Rattle.field.specs.Loops.Filled.{cells, between}
use Rattle.field.specs.Loops.Fold.{fold, upwards, downwards}
use Rattle.divisor.specs.declared.table.Row.{Row}
use Rattle.divisor.specs.declared.table.Table.{Table}
use Rattle.divisor.specs.declared.table.Reduced.{Reduced}
use Rattle.divisor.specs.declared.table.Solution.{Solution}
use Rattle.divisor.specs.declared.table.Solution.TheVariants.{None, One, Several}
use Rattle.divisor.specs.Candidate.{most_keys, most_points}

-- an unknown for each key, and a multiplier for each point, of which the first is fixed
abbrev pub most_columns : ℕ
most_columns = most_keys + most_points

abbrev pub no_row : Row
no_row = record { cells = [] }

abbrev pub cell : Row → ℕ → ℕ
cell e k = get_or e.cells k 0

-- the row kept in column j
abbrev pub row_at : Table → ℕ → Row
row_at t j = get_or t.rows j no_row

abbrev pub diagonal : Table → ℕ → ℕ
diagonal t j = cell (row_at t j) j

abbrev pub zeros : List ℕ
zeros = replicate most_columns 0

abbrev pub zero_row : Row
zero_row = record { cells = zeros }

abbrev pub empty_table : ℕ → Table
empty_table columns = record { rows = replicate most_columns zero_row; columns = columns }

-- the row e with h in the columns from j up to n
abbrev pub altered : ℕ → ℕ → (ℕ → ℕ) → Row → Row
altered j n h e = record { cells = cells (between j n h e.cells) most_columns }

-- the row e from column j on less so often the row d that cell j becomes 0
abbrev pub minus : ℕ → Row → Row → ℕ → ℕ → Row
minus p e d j columns = altered j columns (λ k. (cell e k + (p - cell e j) * cell d k) % p) e

-- the row e from column j on times the inverse of cell j
abbrev pub scaled_row : ℕ → Row → ℕ → ℕ → Row
scaled_row p e j columns = altered j columns (λ k. (inv (el p (cell e j))).val * cell e k % p) e

-- the table with what a step hands back
abbrev pub keeping : Table → Reduced → Table
keeping t r = record { rows = set t.rows r.column r.row; columns = t.columns }

-- the equation kept in column j
abbrev pub kept : ℕ → Table → ℕ → Row → Table
kept p t j e = keeping t (record { row = scaled_row p e j t.columns; column = j })

-- the equation e at the columns from j on, n of them
unfoldable pub insert : ℕ → ℕ → ℕ → Table → Row → Table
insert zero j p t e = t
insert (suc n) j p t e =
    elim (eqb (cell e j) 0) [
      | true ↦ insert n (suc j) p t e
      | false ↦
          elim (eqb (diagonal t j) 0) [
            | true ↦ kept p t j e
            | false ↦ insert n (suc j) p t (minus p e (row_at t j) j t.columns)
          ]
    ]

-- one more equation
abbrev pub with_row : ℕ → Table → Row → Table
with_row p t e = insert t.columns 0 p t e

-- whether some of n columns from j on has no row
unfoldable pub some_free : ℕ → ℕ → Table → Bool
some_free zero j t = false
some_free (suc n) j t = elim (eqb (diagonal t j) 0) [ true ↦ true | false ↦ some_free n (suc j) t ]

-- a and the row e at the values from column k on, n of them
abbrev pub plus_column : ℕ → Row → List ℕ → ℕ → ℕ → ℕ
plus_column p e values k a = (a + cell e k * get_or values k 0) % p

abbrev pub total : ℕ → ℕ → ℕ → Row → List ℕ → ℕ → ℕ
total n k p e values a = fold (plus_column p e values) (upwards k n) a

-- what the row e, kept in column j, leaves for the unknown of that column
abbrev pub value : ℕ → Row → List ℕ → ℕ → ℕ → ℕ
value p e values j last = (p - total (last - (j + 1)) (j + 1) p e values (cell e last)) % p

-- the unknowns before j, the last one first
abbrev pub with_unknown : ℕ → Table → ℕ → List ℕ → List ℕ
with_unknown p t j values = set values j (value p (row_at t j) values j (t.columns - 1))

abbrev pub back : ℕ → ℕ → Table → List ℕ → List ℕ
back j p t values = fold (with_unknown p t) (downwards j) values

abbrev pub values : ℕ → Table → List ℕ
values p t = back (t.columns - 1) p t zeros

-- how many solutions there are, by whether a row is kept in the last column, and whether some other has none
abbrev pub solved_as : Bool → Bool → ℕ → Table → Solution
solved_as true free p t = None
solved_as false true p t = Several
solved_as false false p t = One (values p t)

unfoldable pub solved : ℕ → Table → Solution
solved p t = solved_as (not (eqb (diagonal t (t.columns - 1)) 0)) (some_free (t.columns - 1) 0 t) p t

-- at most 63 unknowns, and the last column
pub record Columns (n : ℕ) : Type 0 where
  pub some : 0 < n
  pub most : n ≤ most_columns

-- an equation's row of numbers below p
pub record RowReady (p : ℕ) (e : Row) : Type 0 where
  pub size : length e.cells ≡ most_columns
  pub below : (k : ℕ) → cell e k < p

-- a table of such rows modulo a listed prime
pub record TableReady (p : ℕ) (t : Table) : Type 0 where
  pub listed : Listed p
  pub columns : Columns t.columns
  pub size : length t.rows ≡ most_columns
  pub below : (i k : ℕ) → cell (row_at t i) k < p

-- what a step asks for
pub record StepReady (p : ℕ) (t : Table) (e : Row) : Type 0 where
  pub table : TableReady p t
  pub row : RowReady p e

-- what a step hands back of the equation e: to keep it is to add the equation, and where nothing is left the table stays
pub record IsLeft (p : ℕ) (t : Table) (e : Row) (r : Reduced) : Type 0 where
  pub within : r.column < t.columns
  pub adds : keeping t r ≡ with_row p t e

abbrev pub Reduces : ℕ → Table → Row → Option Reduced → Type 0
Reduces p t e Nothing = t ≡ with_row p t e
Reduces p t e (Some r) = IsLeft p t e r

-- what work on a row at a column asks for
pub record AtColumn (p : ℕ) (e : Row) (j columns : ℕ) : Type 0 where
  pub listed : Listed p
  pub size : length e.cells ≡ most_columns
  pub below : cell e j < p
  pub nonzero : 0 < cell e j
  pub within : j < columns
  pub most : columns ≤ most_columns

-- what the value of an unknown asks for
pub record Back (p : ℕ) (t : Table) (values : List ℕ) (j : ℕ) : Type 0 where
  pub table : TableReady p t
  pub within : j + 1 < t.columns
  pub known : length values ≡ most_columns
