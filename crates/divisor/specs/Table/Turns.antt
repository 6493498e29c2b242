-- The table's models one turn at a time, as the loops of the code move.
use Rattle.std.specs.Prelude.{◌≡◌, Bool, true, false}
use Rattle.std.proofs.Math.Path.{refl, ap}
use Rattle.std.proofs.Common.{sym, ◌∙◌, subst, add-one}
use Prim.Native.Nat.{ℕ, zero, suc, ◌+◌, ◌-◌, ◌<◌, ◌≤◌}
use Rattle.std.proofs.Math.Decide.{ℕ_discrete}
use native.Mathlib.Omega.{arith}
use borrow.Author.Tests.{eq-eqb, ne_eqb}
use Rattle.divisor.specs.declared.table.Row.{Row}
use Rattle.divisor.specs.declared.table.Table.{Table}
use Rattle.divisor.specs.declared.table.Solution.TheVariants.{None, One, Several}
use Rattle.divisor.specs.Table.Model.{row_at, cell, diagonal, minus, kept, insert, some_free, values, solved_as, solved}

-- a step at one column
module _ (p : ℕ) (t : Table) (e : Row) (j n : ℕ) where
  abbrev taken_off : Table
  taken_off = insert n (suc j) p t (minus p e (row_at t j) j t.columns)

  pub insert_at_zero : cell e j ≡ 0 → insert (suc n) j p t e ≡ insert n (suc j) p t e
  unfolding insert
  insert_at_zero z = rw (eq-eqb (cell e j) 0 z, insert)

  pub insert_at_free : ¬ (cell e j ≡ 0) → diagonal t j ≡ 0 → insert (suc n) j p t e ≡ kept p t j e
  unfolding insert
  insert_at_free z y = rw (ne_eqb (cell e j) 0 z, eq-eqb (diagonal t j) 0 y, insert)

  pub insert_at_kept : ¬ (cell e j ≡ 0) → ¬ (diagonal t j ≡ 0) → insert (suc n) j p t e ≡ taken_off
  unfolding insert
  insert_at_kept z y = rw (ne_eqb (cell e j) 0 z, ne_eqb (diagonal t j) 0 y, insert)

module _ (p : ℕ) (t : Table) (e : Row) (j : ℕ) where
  abbrev left : ℕ
  left = t.columns - (j + 1)

  insert_more : j < t.columns → insert (t.columns - j) j p t e ≡ insert (suc left) j p t e
  insert_more h = let q : t.columns - j ≡ suc left = omega arith in ap (λ n. insert n j p t e) q

  pub insert_skip : j < t.columns → cell e j ≡ 0 → insert (t.columns - j) j p t e ≡ insert left (j + 1) p t e
  insert_skip h z =
      insert_more h ∙ insert_at_zero p t e j left z ∙ ap (λ i. insert left i p t e) (sym (add-one j))

  pub insert_kept : j < t.columns → ¬ (cell e j ≡ 0) → diagonal t j ≡ 0 → insert (t.columns - j) j p t e ≡ kept p t j e
  insert_kept h z y = insert_more h ∙ insert_at_free p t e j left z y

  pub insert_minus : j < t.columns → ¬ (cell e j ≡ 0) → ¬ (diagonal t j ≡ 0)
      → insert (t.columns - j) j p t e ≡ insert left (j + 1) p t (minus p e (row_at t j) j t.columns)
  insert_minus h z y =
      insert_more h ∙ insert_at_kept p t e j left z y
      ∙ ap (λ i. insert left i p t (minus p e (row_at t j) j t.columns)) (sym (add-one j))

  pub insert_end : t.columns ≤ j → insert (t.columns - j) j p t e ≡ t
  unfolding insert
  insert_end h = let q : t.columns - j ≡ 0 = omega arith in ap (λ n. insert n j p t e) q

-- how many solutions there are
module _ (p : ℕ) (t : Table) where
  pub solved_none : ¬ (diagonal t (t.columns - 1) ≡ 0) → solved p t ≡ None
  unfolding solved
  solved_none z = rw (ne_eqb (diagonal t (t.columns - 1)) 0 z, solved)

  -- a column without a row makes several solutions
  pub some_free_from : (n i k : ℕ) → i ≤ k → k < i + n → diagonal t k ≡ 0 → some_free n i t ≡ true
  unfolding some_free
  some_free_from zero i k h l z = absurd (omega arith)
  some_free_from (suc n) i k h l z = elim (ℕ_discrete (diagonal t i) 0) [
    | yes y ↦ rw (eq-eqb (diagonal t i) 0 y, some_free)
    | no y ↦
        let other : ¬ (k ≡ i) = λ e. y (subst (λ j. diagonal t j ≡ 0) e z) in
        rw (ne_eqb (diagonal t i) 0 y, some_free) (some_free_from n (suc i) k (omega arith) (omega arith) z)
  ]

  none_free_from : (n i : ℕ) → ((k : ℕ) → k < i + n → ¬ (diagonal t k ≡ 0)) → some_free n i t ≡ false
  unfolding some_free
  none_free_from zero i h = refl
  none_free_from (suc n) i h =
      rw (ne_eqb (diagonal t i) 0 (h i (omega arith)), some_free) (none_free_from n (suc i) (λ k l. h k (omega arith)))

  module _ (z : diagonal t (t.columns - 1) ≡ 0) where
    by_free : (b : Bool) → some_free (t.columns - 1) 0 t ≡ b → solved p t ≡ solved_as false b p t
    unfolding solved
    by_free b e = rw (eq-eqb (diagonal t (t.columns - 1)) 0 z, e, solved)

    pub solved_several : (k : ℕ) → k < t.columns - 1 → diagonal t k ≡ 0 → solved p t ≡ Several
    solved_several k l y = by_free true (some_free_from (t.columns - 1) 0 k (omega arith) (omega arith) y)

    pub solved_one : ((k : ℕ) → k < t.columns - 1 → ¬ (diagonal t k ≡ 0)) → solved p t ≡ One (values p t)
    solved_one h = by_free false (none_free_from (t.columns - 1) 0 (λ k l. h k (omega arith)))
