-- `divisor::table::Table::value` meets its contract: a turn adds a column to the sum, and at the end the sum is whole.
use Rattle.std.proofs.Common.{◌∙◌, sym, ap, ℕ, ◌+◌, ◌-◌, ◌*◌, ◌%◌, ◌<◌, get_or, zero-add, mod-lt, arith}
use Rattle.field.specs.Contract.{element, plus_product_of, difference_of}
use Rattle.field.specs.Loops.Fold.{fold_turn, fold_end, upwards_turn, upwards_end}
use Rattle.divisor.specs.Table.Model.{row_at, cell, plus_column, total}
use Rattle.divisor.proofs.table.Table.value.Goals as goal

pub loop-k-preserved : goal.loop-k-preserved
loop-k-preserved c =
    let a = c.args in
    let k = c.loop-k.k in
    let sum = c.loop-k.sum in
    let row = row_at a.self.now a.j in
    let positive : 0 < a.p = omega arith in
    let made = c.plus_product-sum.ensures ∙ (λ n. plus_product_of sum (c.of.ensures n) (c.of-in-loop-k.ensures n))
    ∙ ap (λ (m : ℕ). element m ((sum.value + cell row k * get_or a.values.now k 0) % m)) c.loop-k.invariant.modulus in
    record {
      modulus = ap (λ e. e.modulus) made;
      below = rw made (mod-lt _ positive);
      comes_to =
          ap (λ e. total (a.self.now.columns - 1 - (k + 1)) (k + 1) a.p row a.values.now e.value) made
          ∙ sym (fold_turn (plus_column a.p row a.values.now) sum.value (upwards_turn k (a.self.now.columns - 1) c.loop-k-test.true))
          ∙ c.loop-k.invariant.comes_to;
    }

pub returns : goal.returns
returns c =
    let a = c.args in
    let sum = c.loop-k.sum in
    c.difference.ensures ∙ ap (λ e. difference_of e sum) c.zero-zero.ensures
    ∙ ap (λ (n : ℕ). element a.p (n % a.p)) (zero-add (a.p - sum.value))
    ∙ ap (λ (n : ℕ). element a.p ((a.p - n) % a.p))
    (sym
    (fold_end (plus_column a.p (row_at a.self.now a.j) a.values.now) sum.value (upwards_end c.loop-k.k (a.self.now.columns - 1) c.loop-k-test.false))
    ∙ c.loop-k.invariant.comes_to)
