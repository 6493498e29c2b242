-- Adding the equations of the kept points to a table: the turns of the loop, and what the table stays ready for.
use Rattle.std.specs.Prelude.{◌≡◌, ℕ, suc, ◌+◌, ◌%◌, ◌<◌, length, get_or}
use Rattle.std.proofs.Math.Path.{refl, sym, ap, subst}
use Rattle.std.proofs.Common.{◌∙◌, mod-lt, arith}
use mathlib.Core.List.{List, [], ◌∷◌, ◌++◌}
use Rattle.std.proofs.Math.Decide.{ℕ_discrete}
use Rattle.std.proofs.Math.ListN.{length-append, get_or-append}
use Rattle.std.proofs.lemmas.List.{get_or_at}
use Rattle.field.specs.Modulus.Laws.{listed_positive}
use Rattle.divisor.specs.declared.table.Row.{Row}
use Rattle.divisor.specs.declared.table.Table.{Table}
use Rattle.divisor.specs.Table.Model.{no_row, empty_table, with_row, RowReady, TableReady, StepReady}
use Rattle.divisor.specs.Table.Meaning.{added, AllReady}
use Rattle.divisor.specs.Table.Kept.{empty_ready}
use Rattle.divisor.specs.Table.Added.{added_ready, added_columns, added_append}
use Rattle.divisor.specs.Equations.Model.{SystemReady, IsEquationAt, CanAdd, AddsFirst, CanSolve}
use Rattle.divisor.specs.Equations.RowLaws.{equation_ready}

all_ready : (p : ℕ) (rows : List Row) → ((i : ℕ) → i < length rows → RowReady p (get_or rows i no_row)) → AllReady p rows
all_ready p [] h = tt
all_ready p (e ∷ rows) h = (h 0 (omega arith), all_ready p rows (λ i l. h (suc i) (omega arith)))

module _ {p : ℕ} {ks points places work : List ℕ} {n : ℕ} where
  -- the cells of an equation are below p
  one_ready : SystemReady p ks points places work n → (k : ℕ) (e : Row) → IsEquationAt p ks points places work n k e → RowReady p e
  one_ready system k e one =
      let pos = listed_positive system.listed in equation_ready p pos _ _ _ ks (k % 8) _ _ e (mod-lt _ pos) one

  module _ {t : Table} where
    pub adds_first_none : AddsFirst 0 p t ks points places work n t
    unfolding added
    adds_first_none = record { rows = []; count = refl; each = λ i l. absurd (omega arith); is = refl }

    module _ {k : ℕ} {r : Table} (h : AddsFirst k p t ks points places work n r) where
      -- one more equation
      pub adds_first_next : {s : Table} {e : Row} → IsEquationAt p ks points places work n k e → s ≡ with_row p r e
          → AddsFirst (k + 1) p t ks points places work n s
      unfolding added
      adds_first_next {s} {e} one q = record {
        rows = h.rows ++ (e ∷ []);
        count = length-append h.rows (e ∷ []) ∙ ap (◌+ 1) h.count;
        each = λ i l. elim (ℕ_discrete i k) [
          | yes z ↦
              subst (IsEquationAt p ks points places work n i) (sym (get_or_at h.rows e [] no_row i (h.count ∙ sym z)))
              (subst (λ (j : ℕ). IsEquationAt p ks points places work n j e) (sym z) one)
          | no z ↦
              subst (IsEquationAt p ks points places work n i) (sym (get_or-append h.rows (e ∷ []) no_row i (omega (arith, h.count))))
              (h.each i (omega arith))
        ];
        is = q ∙ ap (λ (x : Table). with_row p x e) h.is ∙ sym (added_append p t h.rows (e ∷ []));
      }

      pub rows_ready : SystemReady p ks points places work n → AllReady p h.rows
      rows_ready system =
          all_ready p h.rows (λ i l. one_ready system i (get_or h.rows i no_row) (h.each i (omega (arith, h.count))))

      -- the table is ready for one more, and keeps its columns
      still_ready : SystemReady p ks points places work n → TableReady p t → TableReady p r
      still_ready system ready = rw h.is (added_ready p t h.rows ready (rows_ready system))

      same_columns : SystemReady p ks points places work n → r.columns ≡ t.columns
      same_columns system = ap (λ (x : Table). x.columns) h.is ∙ added_columns p t h.rows (rows_ready system)

    pub step_ready : {k : ℕ} {r : Table} {e : Row} → CanAdd p t ks points places work n → AddsFirst k p t ks points places work n r
        → IsEquationAt p ks points places work n k e → StepReady p r e
    step_ready {k} {r} {e} can h one = record { table = still_ready h can.system can.table; row = one_ready can.system k e one }

  module _ {columns : ℕ} (can : CanSolve p ks points places work n columns) where
    empty_is_ready : TableReady p (empty_table columns)
    empty_is_ready =
        empty_ready p columns can.system.listed
        (record { some = omega (arith, can.columns_are, can.some, can.system.eights); most = omega (arith, can.columns_are, can.system.most) })

    pub can_add_empty : CanAdd p (empty_table columns) ks points places work n
    can_add_empty = record { system = can.system; table = empty_is_ready; columns = can.columns_are }

    pub table_solvable : {r : Table} → AddsFirst n p (empty_table columns) ks points places work n r → TableReady p r × (r.columns ≡ columns)
    table_solvable h = (still_ready h can.system empty_is_ready, same_columns h can.system)
