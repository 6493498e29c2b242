-- The entries of rows: what subtracting, scaling and setting do to them in the field.
use Rattle.std.specs.Prelude.{◌≡◌, get_or, set}
use Rattle.std.proofs.Math.Path.{refl, ap₂}
use Rattle.std.proofs.Common.{sym, ap, ◌∙◌, arith, get_or-set_other}
use mathlib.Core.List.{List, ◌∷◌}
use Prim.Native.Nat.{ℕ, zero, suc, ◌+◌, ◌-◌, ◌*◌, ◌%◌, ◌<◌, ◌≤◌}
use Rattle.algebra.specs.Field.{Field}
use Rattle.algebra.specs.Models.Elimination.{times, plus_times}
use Rattle.algebra.specs.Laws.Solver.{◌⊕◌, ◌⊗◌, ⊝, ◌≗◌, k0, ring2}
use Rattle.field.specs.Prime.{Prime}
use Rattle.field.specs.Modulus.Prime.{prime_positive}
use Rattle.field.specs.Fp.{Fp, el, add, mul, neg, inv}
use Rattle.field.specs.Elements.Fp.{el_nonzero, el_val}
use Rattle.field.specs.Elements.Link.{product_el, plus_times_el, opposite_el}
use Rattle.field.specs.Modulo.{Modulo}
use Rattle.divisor.specs.declared.table.Row.{Row}
use Rattle.divisor.specs.Table.Model.{most_columns, cell, minus, scaled_row}
use Rattle.divisor.specs.Table.Rows.{altered_at}
use Rattle.divisor.specs.Table.Meaning.{entries}

-- the entries behind a place that is set
pub entries_set : (p : ℕ) (l : List ℕ) (j x i n : ℕ) → j < i → entries p (set l j x) i n ≡ entries p l i n
unfolding entries
entries_set p l j x i zero h = refl
entries_set p l j x i (suc n) h =
    ap₂ ◌∷◌ (ap (el p) (get_or-set_other l j i x 0 (λ (q : i ≡ j). omega arith))) (entries_set p l j x (suc i) n (omega arith))

module _ (p : ℕ) (P : Prime p) where
  abbrev K : Field
  K = Modulo p P

  el_minus : (c a b : ℕ) → c < p → el p ((a + (p - c) * b) % p) ≡ add (el p a) (mul (neg (el p c)) (el p b))
  el_minus c a b h =
      plus_times_el p a (p - c) b
      ∙ ap (λ x. add (el p a) (mul x (el p b))) (opposite_el p c (prime_positive P) (omega arith))

  el_times : (x : Fp p) (a : ℕ) → el p (x.val * a % p) ≡ mul x (el p a)
  el_times x a = product_el p x.val a ∙ ap (λ y. mul y (el p a)) (el_val x)

  -- rows that are altered from column j on
  module _ (e : Row) (j columns : ℕ) (most : columns ≤ most_columns) where
    pub minus_entries : (d : Row) → cell e j < p → (i n : ℕ) → j ≤ i → i + n ≤ columns
        → entries p (minus p e d j columns).cells i n
        ≡ plus_times K (entries p e.cells i n) (neg (el p (cell e j))) (entries p d.cells i n)
    unfolding entries
    minus_entries d b i zero h m = refl
    minus_entries d b i (suc n) h m =
        ap₂ ◌∷◌
        (ap (el p) (altered_at j columns _ e i h (omega arith) (omega arith)) ∙ el_minus (cell e j) (cell e i) (cell d i) b)
        (minus_entries d b (suc i) n (omega arith) (omega arith))

    pub scaled_entries : (i n : ℕ) → j ≤ i → i + n ≤ columns
        → entries p (scaled_row p e j columns).cells i n ≡ times K (inv (el p (cell e j))) (entries p e.cells i n)
    unfolding entries
    scaled_entries i zero h m = refl
    scaled_entries i (suc n) h m =
        ap₂ ◌∷◌
        (ap (el p) (altered_at j columns _ e i h (omega arith) (omega arith)) ∙ el_times (inv (el p (cell e j))) (cell e i))
        (scaled_entries (suc i) n (omega arith) (omega arith))

    -- the cell on the diagonal, which becomes 1, is not 0
    pub scaled_diagonal : j < columns → cell e j < p → ¬ (cell e j ≡ 0) → ¬ (cell (scaled_row p e j columns) j ≡ 0)
    scaled_diagonal h b z q =
        let x = el p (cell e j) in
        K.one≢0
        (sym (K.mul_inv x (el_nonzero p (cell e j) b z)) ∙ K.ring.mul_comm x (inv x) ∙ sym (el_times (inv x) (cell e j))
        ∙ ap (el p) (sym (altered_at j columns _ e j (omega arith) h (omega arith)) ∙ q))

  -- a row and 0 times another
  pub zero_times : (l m : List ℕ) (i n : ℕ) → plus_times K (entries p l i n) (neg (el p 0)) (entries p m i n) ≡ entries p l i n
  unfolding entries
  zero_times l m i zero = refl
  zero_times l m i (suc n) =
      ap₂ ◌∷◌ (ring2 K.ring (λ a b. a ⊕ ⊝ k0 ⊗ b ≗ a) tt (el p (get_or l i 0)) (el p (get_or m i 0))) (zero_times l m (suc i) n)
