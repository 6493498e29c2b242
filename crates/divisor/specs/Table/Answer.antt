-- The table's answer is right: for equations of n unknowns, taken one after the other into the empty table, `None` says that there is no solution,
-- `One` that the values are the only one, and `Several` that there are two different ones.
use Rattle.std.specs.Prelude.{◌≡◌, Bool, true, false, not, eqb, ℕ, suc, ◌-◌, ◌<◌, length, get_or}
use Rattle.std.proofs.Math.Path.{refl, sym, ap}
use Rattle.std.proofs.Common.{◌∙◌, subst, arith, length-set}
use mathlib.Core.List.{List, [], ◌∷◌}
use Rattle.algebra.specs.Field.{Field}
use Rattle.algebra.specs.Linear.{unsolvable, one, several, Meets, OnlySolution}
use Rattle.algebra.specs.Models.Elimination.{Table as Equations, fresh, has_failed, has_free, steps, solution, answer}
use Rattle.algebra.specs.Laws.Linear.{solve_meets}
use Rattle.field.specs.Moduli.{Listed}
use Rattle.field.specs.Prime.{Prime}
use Rattle.field.specs.Fp.{Fp, el}
use Rattle.field.specs.Modulo.{Modulo}
use Rattle.field.specs.Loops.Fold.{fold_always, downwards}
use Rattle.divisor.specs.declared.table.Row.{Row}
use Rattle.divisor.specs.declared.table.Table.{Table}
use Rattle.divisor.specs.declared.table.Solution.TheVariants.{One}
use Rattle.divisor.specs.Table.Model.{most_columns, empty_table, diagonal, with_row, some_free, back, values, zeros, solved_as, solved, TableReady}
use Rattle.divisor.specs.Table.Meaning.{table_of, added, rows_of, AllReady, Says}
use Rattle.divisor.specs.Table.Added.{added_ready, added_columns}
use Rattle.divisor.specs.Table.Columns.{empty_columns, full_columns, solved_by_columns}
use Rattle.divisor.specs.Table.Step.{table_step}
use Rattle.divisor.specs.Table.Kept.{empty_ready, with_row_ready, with_row_columns}
use Rattle.divisor.specs.Table.Solution.{values_solve, values_below}

module _ (p : ℕ) (P : Prime p) where
  abbrev K : Field
  K = Modulo p P

  -- the answer of a ready table that means these equations
  ready_answers : (t : Table) → TableReady p t → (n : ℕ) → suc n ≡ t.columns → (es : List Row)
      → table_of p n t ≡ steps K (fresh n) (rows_of p n es) → Says p P n (rows_of p n es) (solved p t)
  ready_answers t ready n size es means =
      subst (Says p P n (rows_of p n es)) (sym (solved_by_columns p t n size))
      (go (has_failed T) (has_free T) refl (subst (λ u. Meets K n (rows_of p n es) (answer K u)) (sym means) (solve_meets K n (rows_of p n es))))
    where
      T : Equations (Fp p)
      T = table_of p n t

      go : (b f : Bool) → has_free T ≡ f
          → Meets K n (rows_of p n es)
          (elim b [
            | true ↦ unsolvable
            | false ↦ elim f [ false ↦ one (solution K (el p 0) T) | true ↦ several (solution K (el p 0) T) (solution K (el p 1) T) ]
          ])
          → Says p P n (rows_of p n es) (solved_as b f p t)
      go true f e m = m
      go false true e m = (solution K (el p 0) T, solution K (el p 1) T, m)
      go false false e m =
          subst (OnlySolution K n (rows_of p n es))
          (sym (values_solve p P t ready n size (λ i h. full_columns p t n 0 e i (omega arith) (omega arith)))) m

  added_means : (n : ℕ) (t : Table) → TableReady p t → suc n ≡ t.columns → (es : List Row) → AllReady p es
      → table_of p n (added p t es) ≡ steps K (table_of p n t) (rows_of p n es)
  unfolding added
  added_means n t ready size [] ok = refl
  added_means n t ready size (e ∷ es) ok =
      added_means n (with_row p t e) (with_row_ready p t e ok.0 ready) (size ∙ sym (with_row_columns p t e ok.0)) es ok.1
      ∙ ap (λ u. steps K u (rows_of p n es)) (table_step p P t ready n e ok.0 size)

  -- equations of n unknowns, one after the other, and the answer
  pub table_answers : (n : ℕ) → n < most_columns → (es : List Row) → Listed p → AllReady p es
      → Says p P n (rows_of p n es) (solved p (added p (empty_table (suc n)) es))
  table_answers n most es listed ok =
      let ready = empty_ready p (suc n) listed (record { some = omega arith; most = omega arith }) in
      ready_answers (added p (empty_table (suc n)) es) (added_ready p (empty_table (suc n)) es ready ok) n
      (sym (added_columns p (empty_table (suc n)) es ok)) es
      (added_means n (empty_table (suc n)) ready refl es ok ∙ ap (λ u. steps K u (rows_of p n es)) (empty_columns p (suc n) 0 n))

-- the values of the only solution are those of back substitution
solved_values : (p : ℕ) (t : Table) (v : List ℕ) → solved p t ≡ One v → v ≡ values p t
unfolding solved
solved_values p t v e = go (not (eqb (diagonal t (t.columns - 1)) 0)) (some_free (t.columns - 1) 0 t) e
  where
    go : (b f : Bool) → solved_as b f p t ≡ One v → v ≡ values p t
    go true f q = cc
    go false true q = cc
    go false false q = cc

back_length : (p : ℕ) (t : Table) (j : ℕ) (v : List ℕ) → length (back j p t v) ≡ length v
back_length p t j v = fold_always (λ w. length w ≡ length v) (λ i w e. length-set w i _ ∙ e) (downwards j) v refl

-- they are numbers below p, as many as a row has cells
module _ (p : ℕ) (t : Table) (v : List ℕ) (e : solved p t ≡ One v) where
  pub solved_below : TableReady p t → (k : ℕ) → get_or v k 0 < p
  solved_below ready k = rw (solved_values p t v e) (values_below p t ready k)

  pub solved_length : length v ≡ most_columns
  solved_length = ap length (solved_values p t v e) ∙ back_length p t (t.columns - 1) zeros
