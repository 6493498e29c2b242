-- The columns of a table, told by its diagonal: which are free, whether the last has failed, and so how many solutions there are.
use Rattle.std.specs.Prelude.{◌≡◌, refl, true, false, not, List, ℕ, zero, suc, ◌+◌, ◌-◌, ◌<◌, ◌≤◌, eqb}
use Rattle.std.proofs.Common.{sym, ap₂, ◌∙◌, true≢false, arith, eq-eqb, ne_eqb}
use Rattle.std.proofs.Math.Path.{ap}
use Rattle.std.proofs.Math.Decide.{ℕ_discrete}
use Rattle.algebra.specs.Models.Elimination.{Table as Equations, solvable, failed, free, pivot, fresh, has_failed, has_free}
use Rattle.field.specs.Fp.{Fp}
use Rattle.divisor.specs.declared.table.Table.{Table}
use Rattle.divisor.specs.Table.Model.{row_at, cell, diagonal, empty_table, some_free, solved_as, solved}
use Rattle.divisor.specs.Table.Meaning.{entries, column, last_column, columns_of, table_of}
use Rattle.divisor.specs.Table.Kept.{empty_cell}
use Rattle.divisor.specs.Table.Turns.{some_free_from}

-- the columns of a table, by the diagonal
module _ (p : ℕ) (t : Table) (i : ℕ) where
  pub last_solvable : diagonal t i ≡ 0 → columns_of p t i zero ≡ solvable
  unfolding columns_of
  last_solvable z = ap last_column (eq-eqb (diagonal t i) 0 z)

  pub last_failed : ¬ (diagonal t i ≡ 0) → columns_of p t i zero ≡ failed
  unfolding columns_of
  last_failed z = ap last_column (ne_eqb (diagonal t i) 0 z)

  module _ (n : ℕ) where
    abbrev entries_behind : List (Fp p)
    entries_behind = entries p (row_at t i).cells (suc i) (suc n)

    abbrev behind : Equations (Fp p)
    behind = columns_of p t (suc i) n

    pub column_free : diagonal t i ≡ 0 → columns_of p t i (suc n) ≡ free behind
    unfolding columns_of
    column_free z = ap (λ b. column b entries_behind behind) (eq-eqb (diagonal t i) 0 z)

    pub column_pivot : ¬ (diagonal t i ≡ 0) → columns_of p t i (suc n) ≡ pivot entries_behind behind
    unfolding columns_of
    column_pivot z = ap (λ b. column b entries_behind behind) (ne_eqb (diagonal t i) 0 z)

-- where a table has the row of column i of another, and its columns behind are known
pub same_row : (p : ℕ) (t u : Table) (i n : ℕ) (T : Equations (Fp p)) → row_at u i ≡ row_at t i → columns_of p u (suc i) n ≡ T
    → columns_of p u i (suc n) ≡ column (eqb (diagonal t i) 0) (entries p (row_at t i).cells (suc i) (suc n)) T
unfolding columns_of
same_row p t u i n T same behind =
    ap₂ (λ r rest. column (eqb (cell r i) 0) (entries p r.cells (suc i) (suc n)) rest) same behind

-- the columns from i on are known by the rows from i on
pub columns_same : (p : ℕ) (t u : Table) (i n : ℕ) → ((k : ℕ) → i ≤ k → row_at u k ≡ row_at t k) → columns_of p u i n ≡ columns_of p t i n
unfolding columns_of
columns_same p t u i zero h = ap (λ r. last_column (eqb (cell r i) 0)) (h i (omega arith))
columns_same p t u i (suc n) h =
    same_row p t u i n (columns_of p t (suc i) n) (h i (omega arith)) (columns_same p t u (suc i) n (λ k l. h k (omega arith)))

-- the empty table is that of no equation
pub empty_columns : (p columns i n : ℕ) → columns_of p (empty_table columns) i n ≡ fresh n
empty_columns p columns i zero = last_solvable p (empty_table columns) i (empty_cell columns i i)
empty_columns p columns i (suc n) =
    column_free p (empty_table columns) i n (empty_cell columns i i) ∙ ap free (empty_columns p columns (suc i) n)

free_columns : (p : ℕ) (t : Table) (n i : ℕ) → some_free n i t ≡ has_free (columns_of p t i n)
unfolding some_free columns_of
free_columns p t zero i =
    elim (eqb (diagonal t i) 0) as (λ b. false ≡ has_free (last_column {A = Fp p} b)) [ true ↦ refl | false ↦ refl ]
free_columns p t (suc n) i = elim (ℕ_discrete (diagonal t i) 0) [
  | yes z ↦ rw (eq-eqb (diagonal t i) 0 z, some_free, columns_of)
  | no z ↦ rw (ne_eqb (diagonal t i) 0 z, some_free, columns_of) (free_columns p t n (suc i))
]

failed_columns : (p : ℕ) (t : Table) (last n i : ℕ) → i + n ≡ last → has_failed (columns_of p t i n) ≡ not (eqb (diagonal t last) 0)
unfolding columns_of
failed_columns p t last zero i h =
    let same : i ≡ last = omega arith in
    elim (eqb (diagonal t i) 0) as (λ b. has_failed (last_column {A = Fp p} b) ≡ not b) [ true ↦ refl | false ↦ refl ]
    ∙ ap (λ m. not (eqb (diagonal t m) 0)) same
failed_columns p t last (suc n) i h =
    elim (eqb (diagonal t i) 0)
    as (λ b. has_failed (column b (entries p (row_at t i).cells (suc i) (suc n)) (columns_of p t (suc i) n)) ≡ has_failed (columns_of p t (suc i) n))
    [ true ↦ refl | false ↦ refl ]
    ∙ failed_columns p t last n (suc i) (omega arith)

-- a row is kept in every column before the last
pub full_columns : (p : ℕ) (t : Table) (n i : ℕ) → has_free (columns_of p t i n) ≡ false → (k : ℕ) → i ≤ k → k < i + n → ¬ (diagonal t k ≡ 0)
full_columns p t n i f k h m z = true≢false (sym (some_free_from p t n i k h m z) ∙ free_columns p t n i ∙ f)

-- what the code answers is by the field's table
pub solved_by_columns : (p : ℕ) (t : Table) (n : ℕ) → suc n ≡ t.columns
    → solved p t ≡ solved_as (has_failed (table_of p n t)) (has_free (table_of p n t)) p t
unfolding solved
solved_by_columns p t n size =
    let last : t.columns - 1 ≡ n = omega arith in
    ap (λ m. solved_as (not (eqb (diagonal t m) 0)) (some_free m 0 t) p t) last
    ∙ ap₂ (λ b f. solved_as b f p t) (sym (failed_columns p t n n 0 (omega arith))) (free_columns p t n 0)
