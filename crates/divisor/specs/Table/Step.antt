-- A step of the model is a step of algebra's table.
use Rattle.std.specs.Prelude.{◌≡◌, refl, Bool, true, false, List, [], ◌∷◌, eqb}
use Rattle.std.proofs.Math.Path.{sym, ap}
use Rattle.std.proofs.Common.{ap₂, ◌∙◌, arith, ne_eqb}
use Prim.Native.Nat.{ℕ, zero, suc, ◌+◌, ◌<◌, ◌≤◌}
use Rattle.std.proofs.Math.Decide.{ℕ_discrete}
use Rattle.algebra.specs.Field.{Field}
use Rattle.algebra.specs.Models.Elimination.{Table as Equations, solvable, failed, free, pivot, times, plus_times, step}
use Rattle.field.specs.Prime.{Prime}
use Rattle.field.specs.Fp.{Fp, el, neg, inv}
use Rattle.field.specs.Elements.Fp.{el_nonzero}
use Rattle.field.specs.Modulo.{Modulo}
use Rattle.divisor.specs.declared.table.Row.{Row}
use Rattle.divisor.specs.declared.table.Table.{Table}
use Rattle.divisor.specs.Table.Model.{most_columns, row_at, cell, diagonal, minus, scaled_row, kept, insert, with_row, RowReady, TableReady}
use Rattle.divisor.specs.Monic.Decided.{decided_yes, decided_no}
use Rattle.divisor.specs.Table.Columns.{last_solvable, last_failed, column_free, column_pivot, same_row, columns_same}
use Rattle.divisor.specs.Table.Rows.{minus_ready}
use Rattle.divisor.specs.Table.Kept.{kept_here, kept_other, insert_all}
use Rattle.divisor.specs.Table.Turns.{insert_at_zero, insert_at_free, insert_at_kept}
use Rattle.divisor.specs.Table.Entries.{minus_entries, scaled_entries, scaled_diagonal, zero_times}
use Rattle.divisor.specs.Table.Meaning.{entries, column, last_column, columns_of, row_of, table_of}

-- a step at the columns from j on leaves the rows before j
insert_before : (n j p : ℕ) (t : Table) (e : Row) (k : ℕ) → k < j → row_at (insert n j p t e) k ≡ row_at t k
insert_before n j p t e k h =
    insert_all p t (λ u. row_at u k ≡ row_at t k) (λ f. Unit {0}) (λ i f u. tt) refl n j
    (λ i l m f u. kept_other p t i f k (λ (q : k ≡ i). omega arith)) e tt

-- a step of the field's table at one column
module _ (p : ℕ) (P : Prime p) where
  abbrev K : Field
  K = Modulo p P

  module _ (c : ℕ) (z : c ≡ 0) where
    is_zero : el p c ≡ el p 0
    is_zero = ap (el p) z

    last_step_zero : (b : Bool) (r : List (Fp p)) → step K (last_column b) (el p c ∷ r) ≡ last_column b
    last_step_zero true r = decided_yes (K.decide (el p c)) solvable failed is_zero
    last_step_zero false r = refl

    column_step_zero : (b : Bool) (T : Equations (Fp p)) (l m : List ℕ) (i n : ℕ)
        → step K (column b (entries p m i n) T) (el p c ∷ entries p l i n) ≡ column b (entries p m i n) (step K T (entries p l i n))
    column_step_zero true T l m i n = decided_yes (K.decide (el p c)) (free (step K T (entries p l i n))) _ is_zero
    column_step_zero false T l m i n =
        ap (λ r. pivot (entries p m i n) (step K T r))
        (ap (λ x. plus_times K (entries p l i n) (neg x) (entries p m i n)) is_zero ∙ zero_times p P l m i n)

  module _ (c : ℕ) (b : c < p) (z : ¬ (c ≡ 0)) where
    solvable_step : (r : List (Fp p)) → step K solvable (el p c ∷ r) ≡ failed
    solvable_step r = decided_no (K.decide (el p c)) solvable failed (el_nonzero p c b z)

    free_step : (T : Equations (Fp p)) (r : List (Fp p)) → step K (free T) (el p c ∷ r) ≡ pivot (times K (inv (el p c)) r) T
    free_step T r = decided_no (K.decide (el p c)) (free (step K T r)) _ (el_nonzero p c b z)

  module _ (t : Table) (ready : TableReady p t) where
    module _ (e : Row) (ok : RowReady p e) (i : ℕ) (within : i < t.columns) where
      most : t.columns ≤ most_columns
      most = ready.columns.most

      kept_row : row_at (kept p t i e) i ≡ scaled_row p e i t.columns
      kept_row = kept_here p t i e ready.size (omega (arith, most))

      kept_diagonal : ¬ (cell e i ≡ 0) → ¬ (diagonal (kept p t i e) i ≡ 0)
      kept_diagonal z q =
          scaled_diagonal p P e i t.columns most within (ok.below i) z (ap (λ r. cell r i) (sym kept_row) ∙ q)

      kept_behind : (n : ℕ) → columns_of p (kept p t i e) (suc i) n ≡ columns_of p t (suc i) n
      kept_behind n =
          columns_same p t (kept p t i e) (suc i) n
          (λ k l. kept_other p t i e k (λ (q : k ≡ i). omega arith))

      -- the last column
      last_step : columns_of p (insert 1 i p t e) i zero ≡ step K (columns_of p t i zero) (el p (cell e i) ∷ [])
      unfolding insert columns_of
      last_step = go (ℕ_discrete (cell e i) 0) (ℕ_discrete (diagonal t i) 0)
        where
          go : Dec (cell e i ≡ 0) → Dec (diagonal t i ≡ 0) → columns_of p (insert 1 i p t e) i zero ≡ step K (columns_of p t i zero) (el p (cell e i) ∷ [])
          go (yes z) d =
              ap (λ u. columns_of p u i zero) (insert_at_zero p t e i zero z) ∙ sym (last_step_zero (cell e i) z (eqb (diagonal t i) 0) [])
          go (no z) (yes y) =
              ap (λ u. columns_of p u i zero) (insert_at_free p t e i zero z y)
              ∙ last_failed p (kept p t i e) i (kept_diagonal z)
              ∙ sym (ap (λ T. step K T (el p (cell e i) ∷ [])) (last_solvable p t i y) ∙ solvable_step (cell e i) (ok.below i) z [])
          go (no z) (no y) =
              ap (λ u. columns_of p u i zero) (insert_at_kept p t e i zero z y) ∙ last_failed p t i y
              ∙ sym (ap (λ T. step K T (el p (cell e i) ∷ [])) (last_failed p t i y))

      -- another column, with a step at the columns behind it
      module _ (n : ℕ) (size : i + suc (suc n) ≡ t.columns)
          (later : (f : Row) → RowReady p f
          → columns_of p (insert (suc n) (suc i) p t f) (suc i) n ≡ step K (columns_of p t (suc i) n) (entries p f.cells (suc i) (suc n))) where
        abbrev T : Equations (Fp p)
        T = columns_of p t (suc i) n

        abbrev q : List (Fp p)
        q = entries p (row_at t i).cells (suc i) (suc n)

        abbrev r : List (Fp p)
        r = entries p e.cells (suc i) (suc n)

        abbrev Goal : Table → Type 0
        Goal u = columns_of p u i (suc n) ≡ step K (columns_of p t i (suc n)) (el p (cell e i) ∷ r)

        at_zero : cell e i ≡ 0 → Goal (insert (suc n) (suc i) p t e)
        unfolding columns_of
        at_zero z =
            same_row p t (insert (suc n) (suc i) p t e) i n (step K T r) (insert_before (suc n) (suc i) p t e i (omega arith)) (later e ok)
            ∙ sym (column_step_zero (cell e i) z (eqb (diagonal t i) 0) T e.cells (row_at t i).cells (suc i) (suc n))

        at_free : ¬ (cell e i ≡ 0) → diagonal t i ≡ 0 → Goal (kept p t i e)
        at_free z y =
            column_pivot p (kept p t i e) i n (kept_diagonal z)
            ∙ ap₂ pivot
            (ap (λ x. entries p x.cells (suc i) (suc n)) kept_row
            ∙ scaled_entries p P e i t.columns most (suc i) (suc n) (omega arith) (omega arith))
            (kept_behind n)
            ∙ sym (ap (λ U. step K U (el p (cell e i) ∷ r)) (column_free p t i n y) ∙ free_step (cell e i) (ok.below i) z T r)

        at_kept : ¬ (diagonal t i ≡ 0) → Goal (insert (suc n) (suc i) p t (minus p e (row_at t i) i t.columns))
        at_kept y =
            let f = minus p e (row_at t i) i t.columns in
            same_row p t (insert (suc n) (suc i) p t f) i n _ (insert_before (suc n) (suc i) p t f i (omega arith))
            (later f (minus_ready p e i t.columns ok (row_at t i)))
            ∙ ap (λ b. column b q (step K T (entries p f.cells (suc i) (suc n)))) (ne_eqb (diagonal t i) 0 y)
            ∙ ap (λ s. pivot q (step K T s))
            (minus_entries p P e i t.columns most (row_at t i) (ok.below i) (suc i) (suc n) (omega arith) (omega arith))
            ∙ sym (ap (λ U. step K U (el p (cell e i) ∷ r)) (column_pivot p t i n y))

        column_step : Goal (insert (suc (suc n)) i p t e)
        column_step = go (ℕ_discrete (cell e i) 0) (ℕ_discrete (diagonal t i) 0)
          where
            go : Dec (cell e i ≡ 0) → Dec (diagonal t i ≡ 0) → Goal (insert (suc (suc n)) i p t e)
            go (yes z) d = ap (λ u. columns_of p u i (suc n)) (insert_at_zero p t e i (suc n) z) ∙ at_zero z
            go (no z) (yes y) = ap (λ u. columns_of p u i (suc n)) (insert_at_free p t e i (suc n) z y) ∙ at_free z y
            go (no z) (no y) = ap (λ u. columns_of p u i (suc n)) (insert_at_kept p t e i (suc n) z y) ∙ at_kept y

    columns_step : (n i : ℕ) (e : Row) → RowReady p e → i + suc n ≡ t.columns
        → columns_of p (insert (suc n) i p t e) i n ≡ step K (columns_of p t i n) (entries p e.cells i (suc n))
    unfolding entries
    columns_step zero i e ok size = last_step e ok i (omega arith)
    columns_step (suc n) i e ok size =
        column_step e ok i (omega arith) n size (λ f k. columns_step n (suc i) f k (omega arith))

    -- a step of the model is a step of the field's table
    pub table_step : (n : ℕ) (e : Row) → RowReady p e → suc n ≡ t.columns → table_of p n (with_row p t e) ≡ step K (table_of p n t) (row_of p n e)
    table_step n e ok size = ap (λ m. table_of p n (insert m 0 p t e)) (sym size) ∙ columns_step n 0 e ok (omega arith)
