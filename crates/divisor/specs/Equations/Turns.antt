-- The turns of the loop that makes an equation's row: numbers for the keys passed, 0 for the rest, and last the multiplier's column.
use Rattle.std.specs.Prelude.{◌≡◌, refl, List, ℕ, ◌+◌, ◌≤◌, ◌<◌, length, get_or, set}
use Rattle.std.proofs.Common.{sym, ◌∙◌, arith, length-set, get_or-set_same, get_or-set_other}
use Rattle.poly.specs.Keys.{exponents}
use Rattle.field.specs.Loops.Places.{replicate_all}
use Rattle.field.specs.Loops.Filled.{Filled}
use Rattle.field.specs.Loops.Cells.{filled_passed}
use Rattle.divisor.specs.declared.table.Row.{Row}
use Rattle.divisor.specs.Table.Model.{most_columns, zeros}
use Rattle.divisor.specs.Equations.Model.{monomial_number, IsEquation}
use Rattle.divisor.specs.Equations.RowLaws.{number_there}

abbrev pub with_cell : Row → ℕ → ℕ → Row
with_cell r j v = record { cells = set r.cells j v }

module _ (p y z w : ℕ) (ks : List ℕ) (i : ℕ) where
  abbrev pub number_at : ℕ → ℕ
  number_at k = monomial_number p y z w i (get_or ks k 0)

  module _ (j : ℕ) (r : Row) (h : Filled number_at most_columns zeros j r.cells) where
    zero_at : (k : ℕ) → get_or zeros k 0 ≡ 0
    zero_at k = replicate_all (λ a. a ≡ 0) most_columns k 0 0 refl refl

    pub equation_passed : j < most_columns → ¬ ((exponents (get_or ks j 0)).x ≡ i) → Filled number_at most_columns zeros (j + 1) r.cells
    equation_passed b n = filled_passed h b (zero_at j ∙ sym (number_there p y z w i (get_or ks j 0) n))

    pub equation_end : (column u : ℕ) → length ks ≤ j → j ≤ length ks → length ks ≤ column → column < most_columns
        → IsEquation p y z w ks i column u (with_cell r column u)
    equation_end column u l m b c = record {
      size = length-set r.cells column u ∙ h.long;
      monomials = λ k a. get_or-set_other r.cells column k u 0 (λ z. omega arith) ∙ h.done k (omega arith);
      multiplier = get_or-set_same r.cells column u 0 (omega (arith, h.long));
      others = λ k a n. get_or-set_other r.cells column k u 0 n ∙ h.left k (omega arith) ∙ zero_at k;
    }
