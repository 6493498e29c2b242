-- Rows that are altered from a column on: each altered place has its new number, and all numbers stay below p.
use Rattle.std.specs.Prelude.{◌≡◌, ℕ, ◌<◌, ◌≤◌}
use Rattle.std.proofs.Common.{◌∙◌, mod-lt, arith}
use Rattle.field.specs.Loops.Filled.{between}
use Rattle.field.specs.Loops.Cells.{cells_length, cells_at, cells_all, between_in, between_all}
use Rattle.divisor.specs.declared.table.Row.{Row}
use Rattle.divisor.specs.Table.Model.{most_columns, cell, altered, minus, scaled_row, RowReady}

pub altered_at : (j n : ℕ) (h : ℕ → ℕ) (e : Row) (k : ℕ) → j ≤ k → k < n → k < most_columns → cell (altered j n h e) k ≡ h k
altered_at j n h e k from to small =
    cells_at (between j n h e.cells) most_columns k small ∙ between_in j n h e.cells k from to

-- an equation stays one
module _ (p : ℕ) (e : Row) (j n : ℕ) (ok : RowReady p e) where
  positive : 0 < p
  positive = omega (arith, ok.below 0)

  altered_ready : (h : ℕ → ℕ) → ((k : ℕ) → h k < p) → RowReady p (altered j n h e)
  altered_ready h small = record {
    size = cells_length _ most_columns;
    below =
        λ k. cells_all (λ a. a < p) (between j n h e.cells) most_columns k
        (λ l. between_all (λ a. a < p) j n h e.cells k (small k) (ok.below k)) (λ l. positive);
  }

  pub minus_ready : (d : Row) → RowReady p (minus p e d j n)
  minus_ready d = altered_ready _ (λ k. mod-lt _ positive)

  pub scaled_ready : RowReady p (scaled_row p e j n)
  scaled_ready = altered_ready _ (λ k. mod-lt _ positive)
