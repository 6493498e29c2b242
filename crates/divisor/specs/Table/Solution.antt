-- Where a row is kept in each column before the last, the values of back substitution are the solution over the field.
use Rattle.std.specs.Prelude.{◌≡◌, eqb, length, set}
use Rattle.std.proofs.Math.Path.{refl, sym, ap, ap₂, subst}
use Rattle.std.proofs.Common.{◌∙◌, add-one, add-zero, le_of_lt, mod-lt, length-set, get_or-set_same}
use Rattle.std.proofs.Math.Bool.{true, false}
use mathlib.Core.List.{List, [], ◌∷◌}
use Prim.Native.Nat.{ℕ, zero, suc, ◌+◌, ◌-◌, ◌*◌, ◌%◌, ◌<◌}
use native.Mathlib.Omega.{arith}
use Rattle.std.proofs.Math.ListN.{get_or}
use Rattle.algebra.specs.Field.{Field}
use Rattle.algebra.specs.Linear.{eval}
use Rattle.algebra.specs.Models.Elimination.{before, solution}
use Rattle.algebra.specs.Laws.Ring.{add_cancel}
use Rattle.field.specs.Modulus.Laws.{listed_positive}
use Rattle.field.specs.Prime.{Prime}
use Rattle.field.specs.Modulus.Prime.{prime_positive}
use Rattle.field.specs.Fp.{el, add, neg}
use Rattle.field.specs.Elements.Fp.{el_mod}
use Rattle.field.specs.Elements.Link.{plus_times_el, opposite_el}
use Rattle.field.specs.Modulo.{Modulo}
use Rattle.field.specs.Loops.Fold.{fold, fold_always, upwards, downwards}
use Rattle.field.specs.Loops.Places.{replicate_all, set_all}
use Rattle.divisor.specs.declared.table.Row.{Row}
use Rattle.divisor.specs.declared.table.Table.{Table}
use Rattle.divisor.specs.Table.Model.{most_columns, row_at, cell, diagonal, total, value, back, values, zeros, TableReady}
use Rattle.divisor.specs.Table.Entries.{entries_set}
use Rattle.divisor.specs.Table.Meaning.{entries, last_column, columns_of, table_of}
use Rattle.divisor.specs.Table.Columns.{column_pivot}

total_below : (p : ℕ) → 0 < p → (n k : ℕ) (e : Row) (v : List ℕ) (a : ℕ) → a < p → total n k p e v a < p
total_below p h n k e v = fold_always (λ a. a < p) (λ i a b. mod-lt _ h) (upwards k n)

module _ (p : ℕ) (P : Prime p) where
  abbrev K : Field
  K = Modulo p P

  -- the code's sum and the row's value differ by what the sum begins with
  total_adds : (e : Row) (v : List ℕ) (last n i : ℕ) → i + n ≡ last → (a : ℕ)
      → add (el p (total n i p e v a)) (el p (cell e last)) ≡ add (el p a) (eval K (entries p e.cells i (suc n)) (entries p v i n))
  unfolding fold upwards entries
  total_adds e v last zero i h a = let same : last ≡ i = omega arith in ap (λ m. add (el p a) (el p (cell e m))) same
  total_adds e v last (suc n) i h a =
      total_adds e v last n (suc i) (omega arith) ((a + cell e i * get_or v i 0) % p)
      ∙ ap (λ x. add x (eval K (entries p e.cells (suc i) (suc n)) (entries p v (suc i) n)))
      (plus_times_el p a (cell e i) (get_or v i 0))
      ∙ K.ring.add_assoc _ _ _

  total_is_value : (e : Row) (v : List ℕ) (last n i : ℕ) → i + n ≡ last
      → el p (total n i p e v (cell e last)) ≡ eval K (entries p e.cells i (suc n)) (entries p v i n)
  total_is_value e v last n i h =
      add_cancel K.ring (el p (cell e last)) _ _ (K.ring.add_comm _ _ ∙ total_adds e v last n i h (cell e last))

  module _ (t : Table) (ready : TableReady p t) (n : ℕ) (size : suc n ≡ t.columns) where
    -- the value of an unknown
    value_solves : (v : List ℕ) (j k : ℕ) → suc j + k ≡ n
        → el p (value p (row_at t j) v j (t.columns - 1))
        ≡ neg (eval K (entries p (row_at t j).cells (suc j) (suc k)) (entries p v (suc j) k))
    value_solves v j k h =
        let last : t.columns - 1 ≡ n = omega arith in
        let left : n - (j + 1) ≡ k = omega arith in
        ap (λ m. el p (value p (row_at t j) v j m)) last
        ∙ el_mod p _
        ∙ opposite_el p _ (prime_positive P)
        (le_of_lt (total_below p (prime_positive P) (n - (j + 1)) (j + 1) (row_at t j) v (cell (row_at t j) n) (ready.below j n)))
        ∙ ap neg
        (ap₂ (λ m i. el p (total m i p (row_at t j) v (cell (row_at t j) n))) left (add-one j) ∙ total_is_value (row_at t j) v n k (suc j) h)

    -- one more unknown before those that are known
    unknown_solves : (v : List ℕ) (j k : ℕ) → suc j + k ≡ n → length v ≡ most_columns → ¬ (diagonal t j ≡ 0)
        → entries p v (suc j) k ≡ solution K (el p 0) (columns_of p t (suc j) k)
        → entries p (set v j (value p (row_at t j) v j (t.columns - 1))) j (suc k) ≡ solution K (el p 0) (columns_of p t j (suc k))
    unfolding entries
    unknown_solves v j k h s full known =
        let x = value p (row_at t j) v j (t.columns - 1) in
        ap₂ ◌∷◌ (ap (el p) (get_or-set_same v j x 0 (omega (arith, ready.columns.most))) ∙ value_solves v j k h) (entries_set p v j x (suc j) k (omega arith))
        ∙ ap (before K (entries p (row_at t j).cells (suc j) (suc k))) known
        ∙ sym (ap (solution K (el p 0)) (column_pivot p t j k full))

    back_solves : ((i : ℕ) → i < n → ¬ (diagonal t i ≡ 0)) → (j k : ℕ) (v : List ℕ) → j + k ≡ n → length v ≡ most_columns
        → entries p v j k ≡ solution K (el p 0) (columns_of p t j k) → entries p (back j p t v) 0 n ≡ solution K (el p 0) (table_of p n t)
    unfolding fold downwards
    back_solves full zero k v h s known =
        let same : k ≡ n = omega arith in
        subst (λ m. entries p v 0 m ≡ solution K (el p 0) (columns_of p t 0 m)) same known
    back_solves full (suc j) k v h s known =
        let x = value p (row_at t j) v j (t.columns - 1) in
        back_solves full j (suc k) (set v j x) (omega arith) (length-set v j x ∙ s)
        (unknown_solves v j k h s (full j (omega arith)) known)

    -- the values are the solution
    pub values_solve : ((i : ℕ) → i < n → ¬ (diagonal t i ≡ 0)) → entries p (values p t) 0 n ≡ solution K (el p 0) (table_of p n t)
    unfolding columns_of entries
    values_solve full =
        let last : t.columns - 1 ≡ n = omega arith in
        ap (λ m. entries p (back m p t zeros) 0 n) last ∙ back_solves full n 0 zeros (add-zero n) refl
        (elim (eqb (diagonal t n) 0) as (λ b. [] ≡ solution K (el p 0) (last_column b)) [ true ↦ refl | false ↦ refl ])

-- all values are below p
back_below : (p : ℕ) → 0 < p → (t : Table) (j : ℕ) (v : List ℕ) → ((k : ℕ) → get_or v k 0 < p) → (k : ℕ) → get_or (back j p t v) k 0 < p
back_below p h t j =
    fold_always (λ v. (k : ℕ) → get_or v k 0 < p) (λ i v b k. set_all (λ a. a < p) v i k _ 0 (mod-lt _ h) (b k)) (downwards j)

pub values_below : (p : ℕ) (t : Table) → TableReady p t → (k : ℕ) → get_or (values p t) k 0 < p
values_below p t ready =
    let positive : 0 < p = listed_positive ready.listed in
    back_below p positive t (t.columns - 1) zeros (λ k. replicate_all (λ a. a < p) most_columns k 0 0 positive positive)
