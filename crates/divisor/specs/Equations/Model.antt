-- The equations in plain numbers: what the row of x^i at a point has in its cells, which equations the kept points have, and their solution.
use Rattle.std.specs.Prelude.{◌≡◌, true, false, List, ℕ, zero, suc, ◌+◌, ◌-◌, ◌*◌, ◌/◌, ◌%◌, ◌≤◌, ◌<◌, eqb, length, get_or}
use Rattle.field.specs.declared.elements.Element.{Element}
use Rattle.field.specs.Moduli.{Listed}
use Rattle.field.specs.Prime.{Prime}
use Rattle.field.specs.Modulo.{Modulo}
use Rattle.poly.specs.Keys.{exponents}
use Rattle.poly.specs.Coefficients.{series}
use Rattle.poly.specs.ImageCall.{point_of}
use Rattle.poly.specs.Value.Monomial.{monomial}
use Rattle.divisor.specs.declared.table.Row.{Row}
use Rattle.divisor.specs.declared.table.Table.{Table}
use Rattle.divisor.specs.declared.table.Solution.{Solution}
use Rattle.divisor.specs.Rule.{Kept}
use Rattle.divisor.specs.Candidate.{point_at}
use Rattle.divisor.specs.Points.PartsModel.{part}
use Rattle.divisor.specs.Table.Model.{most_columns, no_row, cell, empty_table, solved, TableReady}
use Rattle.divisor.specs.Table.Meaning.{added}

-- the coefficient of x^i of the monomial with the key k, at the point y, z, w
unfoldable pub monomial_number : ℕ → ℕ → ℕ → ℕ → ℕ → ℕ → ℕ
monomial_number p y z w i k = elim (eqb (exponents k).x i) [ true ↦ monomial y z w k % p | false ↦ 0 ]

-- what an equation asks for: a listed modulus, which the point has too, and a column behind the keys
pub record EquationReady (y z w : Element) (ks : List ℕ) (column : ℕ) (u : Element) : Type 0 where
  pub listed : Listed u.modulus
  pub y_same : y.modulus ≡ u.modulus
  pub z_same : z.modulus ≡ u.modulus
  pub w_same : w.modulus ≡ u.modulus
  pub behind : length ks ≤ column
  pub within : column < most_columns

-- the row: a number for each key, u in the column, and 0 elsewhere
pub record IsEquation (p y z w : ℕ) (ks : List ℕ) (i column u : ℕ) (r : Row) : Type 0 where
  pub size : length r.cells ≡ most_columns
  pub monomials : (j : ℕ) → j < length ks → cell r j ≡ monomial_number p y z w i (get_or ks j 0)
  pub multiplier : cell r column ≡ u
  pub others : (j : ℕ) → length ks ≤ j → ¬ (j ≡ column) → cell r j ≡ 0

-- the place of point i's image in the work room
abbrev pub image_at : List ℕ → ℕ → List ℕ
image_at work i = part 8 i work

-- the point of three coordinates, with the image of eight coefficients
abbrev pub kept_numbers : (p : ℕ) (P : Prime p) → List ℕ → List ℕ → Kept (Modulo p P)
kept_numbers p P point image = record { point = point_of p P point; image = series p image }

-- point i with its image
abbrev pub kept_at : {p : ℕ} (P : Prime p) (points work : List ℕ) → ℕ → Kept (Modulo p P)
kept_at {p} P points work i = kept_numbers p P (point_at points i) (image_at work i)

-- the column of the next point's multiplier, behind the monomials: the last for the first point
abbrev pub next_column : ℕ → ℕ → ℕ
next_column n zero = n
next_column n (suc kept) = kept

-- some column behind the keys, and not all multipliers placed
pub record ColumnReady (keys kept columns : ℕ) : Type 0 where
  pub behind : keys < columns
  pub most : columns ≤ most_columns
  pub left : keys + kept < columns

-- what n equations ask for, eight for each kept point: the place of a point is that of its three coordinates, and of the eight numbers of its image
pub record SystemReady (p : ℕ) (ks points places work : List ℕ) (n : ℕ) : Type 0 where
  pub listed : Listed p
  pub eights : n ≡ 8 * (n / 8)
  pub few : n / 8 ≤ length places
  pub most : length ks + n / 8 ≤ most_columns
  pub coordinates : (a : ℕ) → a < n / 8 → 3 * get_or places a 0 + 3 ≤ length points
  pub room : (a : ℕ) → a < n / 8 → 8 * get_or places a 0 + 8 ≤ length work
  pub below : (a j : ℕ) → a < n / 8 → j < 8 → get_or work (8 * get_or places a 0 + j) 0 < p

-- one of them
pub record OneOf (p : ℕ) (ks points places work : List ℕ) (n k : ℕ) : Type 0 where
  pub system : SystemReady p ks points places work n
  pub within : k < n

-- e is equation k of n: of the kept point k / 8, whose place is i, for x^(k % 8)
abbrev pub IsEquationOf : (p : ℕ) (ks points : List ℕ) (i : ℕ) (work : List ℕ) (n k : ℕ) → Row → Type 0
IsEquationOf p ks points i work n k e =
    IsEquation p (get_or points (3 * i) 0) (get_or points (3 * i + 1) 0) (get_or points (3 * i + 2) 0) ks (k % 8)
    (length ks + next_column (n / 8 - 1) (k / 8)) ((p - get_or work (8 * i + k % 8) 0) % p) e

abbrev pub IsEquationAt : (p : ℕ) (ks points places work : List ℕ) (n k : ℕ) → Row → Type 0
IsEquationAt p ks points places work n k e = IsEquationOf p ks points (get_or places (k / 8) 0) work n k e

-- what adding them to a table asks for
pub record CanAdd (p : ℕ) (t : Table) (ks points places work : List ℕ) (n : ℕ) : Type 0 where
  pub system : SystemReady p ks points places work n
  pub table : TableReady p t
  pub columns : t.columns ≡ length ks + n / 8

-- r is t with the first k of them added, one after the other
pub record AddsFirst (k p : ℕ) (t : Table) (ks points places work : List ℕ) (n : ℕ) (r : Table) : Type 0 where
  pub rows : List Row
  pub count : length rows ≡ k
  pub each : (i : ℕ) → i < k → IsEquationAt p ks points places work n i (get_or rows i no_row)
  pub is : r ≡ added p t rows

-- what their solution asks for
pub record CanSolve (p : ℕ) (ks points places work : List ℕ) (n columns : ℕ) : Type 0 where
  pub system : SystemReady p ks points places work n
  pub some : 0 < n
  pub columns_are : columns ≡ length ks + n / 8

-- how many solutions they have, and the values of the only one, by a table that was empty before them
pub record Solves (p : ℕ) (ks points places work : List ℕ) (n columns : ℕ) (r : Solution) : Type 0 where
  pub table : Table
  pub made : AddsFirst n p (empty_table columns) ks points places work n table
  pub is : r ≡ solved p table
