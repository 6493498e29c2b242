-- The empty table is ready. A row that is kept stands in its column, and the other rows stay. A step keeps the table ready for the next equation,
-- with as many columns as it had.
use Rattle.std.specs.Prelude.{◌≡◌, refl, ℕ, zero, suc, ◌+◌, ◌<◌, ◌≤◌, length}
use Rattle.std.proofs.Common.{◌∙◌, arith, length-set, get_or-set_same, get_or-set_other}
use Rattle.std.proofs.Math.Decide.{ℕ_discrete}
use Rattle.std.proofs.lemmas.List.{length-replicate}
use Rattle.field.specs.Moduli.{Listed}
use Rattle.field.specs.Modulus.Laws.{listed_positive}
use Rattle.field.specs.Loops.Places.{replicate_all, set_all}
use Rattle.divisor.specs.declared.table.Row.{Row}
use Rattle.divisor.specs.declared.table.Table.{Table}
use Rattle.divisor.specs.Table.Model.{most_columns, no_row, zero_row, row_at, cell, diagonal, empty_table, minus, scaled_row, kept, insert}
use Rattle.divisor.specs.Table.Model.{with_row, Columns, RowReady, TableReady}
use Rattle.divisor.specs.Table.Rows.{minus_ready, scaled_ready}
use Rattle.divisor.specs.Table.Turns.{insert_at_zero, insert_at_free, insert_at_kept}

-- every cell of the empty table is 0
pub empty_cell : (columns i k : ℕ) → cell (row_at (empty_table columns) i) k ≡ 0
empty_cell columns i k =
    replicate_all (λ (r : Row). cell r k ≡ 0) most_columns i zero_row no_row (replicate_all (λ a. a ≡ 0) most_columns k 0 0 refl refl) refl

pub empty_ready : (p columns : ℕ) → Listed p → Columns columns → TableReady p (empty_table columns)
empty_ready p columns listed fit = record {
  listed = listed;
  columns = fit;
  size = length-replicate most_columns zero_row;
  below = λ i k. omega (arith, empty_cell columns i k, listed_positive listed);
}

-- the rows after one is kept in column j
module _ (p : ℕ) (t : Table) (j : ℕ) (e : Row) where
  abbrev new : Row
  new = scaled_row p e j t.columns

  pub kept_here : length t.rows ≡ most_columns → j < most_columns → row_at (kept p t j e) j ≡ new
  kept_here size h = get_or-set_same t.rows j new no_row (omega arith)

  pub kept_other : (k : ℕ) → ¬ (k ≡ j) → row_at (kept p t j e) k ≡ row_at t k
  kept_other k other = get_or-set_other t.rows j k new no_row other

  kept_ready : TableReady p t → RowReady p e → j < t.columns → TableReady p (kept p t j e)
  kept_ready ready ok h = record {
    listed = ready.listed;
    columns = ready.columns;
    size = length-set t.rows j new ∙ ready.size;
    below = λ i k. set_all (λ (r : Row). cell r k < p) t.rows j i new no_row ((scaled_ready p e j t.columns ok).below k) (ready.below i k);
  }

-- What the table has, and has with each row kept that the step can reach, it has after the step. R is what is known of the rows on the way.
pub insert_all : (p : ℕ) (t : Table) (Q : Table → Type 0) (R : Row → Type 0)
    → ((j : ℕ) (e : Row) → R e → R (minus p e (row_at t j) j t.columns)) → Q t
    → (n j : ℕ) → ((i : ℕ) → j ≤ i → i < j + n → (e : Row) → R e → Q (kept p t i e)) → (e : Row) → R e → Q (insert n j p t e)
unfolding insert
insert_all p t Q R next here zero j there e ok = here
insert_all p t Q R next here (suc n) j there e ok =
    let later = insert_all p t Q R next here n (suc j) (λ i l m. there i (omega arith) (omega arith)) in
    elim (ℕ_discrete (cell e j) 0) [
      | yes z ↦ rw (insert_at_zero p t e j n z) (later e ok)
      | no z ↦ elim (ℕ_discrete (diagonal t j) 0) [
        | yes y ↦ rw (insert_at_free p t e j n z y) (there j (omega arith) (omega arith) e ok)
        | no y ↦ rw (insert_at_kept p t e j n z y) (later (minus p e (row_at t j) j t.columns) (next j e ok))
      ]
    ]

module _ (p : ℕ) (t : Table) (e : Row) (ok : RowReady p e) where
  pub with_row_ready : TableReady p t → TableReady p (with_row p t e)
  with_row_ready ready =
      insert_all p t (TableReady p) (RowReady p) (λ j f ok. minus_ready p f j t.columns ok (row_at t j)) ready t.columns 0
      (λ j l m f ok. kept_ready p t j f ready ok (omega arith)) e ok

  pub with_row_columns : (with_row p t e).columns ≡ t.columns
  with_row_columns =
      insert_all p t (λ u. u.columns ≡ t.columns) (λ f. Unit {0}) (λ j f u. tt) refl t.columns 0 (λ j l m f u. refl) e tt
