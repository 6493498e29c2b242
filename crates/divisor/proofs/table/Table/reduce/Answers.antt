-- `divisor::table::Table::reduce` meets its contract: at each column the step passes, ends or goes on with less.
use Rattle.std.proofs.Common.{◌≡◌, ◌∙◌, sym, ap, ◌+◌, ◌-◌}
use Rattle.divisor.specs.declared.table.Row.{Row}
use Rattle.divisor.specs.Table.Model.{row_at, keeping, insert, minus}
use Rattle.divisor.specs.Table.Turns.{insert_skip, insert_kept, insert_minus, insert_end}
use Rattle.divisor.specs.Table.Rows.{minus_ready}
use Rattle.divisor.proofs.table.Table.reduce.Goals as goal
use Rattle.divisor.proofs.table.Table.reduce.Goals.{then-row-j-ne0+else-diagonal-eq0, else-row-j-ne0}

pub returns-then-diagonal-eq0 : goal.returns-then-diagonal-eq0
returns-then-diagonal-eq0 c =
    let a = c.args in
    let l = c.loop-j in
    record {
      within = c.loop-j-test.true;
      adds =
          ap (λ (r : Row). keeping a.self.now (record { row = r; column = l.j })) c.scale.ensures
          ∙ sym (insert_kept a.p a.self.now l.row l.j c.loop-j-test.true c.if-row-j-ne0.true (sym c.diagonal.ensures ∙ c.if-diagonal-eq0.true))
          ∙ l.invariant.comes_to;
    }

pub loop-j-preserved : goal.loop-j-preserved
loop-j-preserved c =
    let a = c.args in
    let l = c.loop-j in
    let t = a.self.now in
    let left = t.columns - (l.j + 1) in
    elim c.if-row-j-ne0.branch [
      | then-row-j-ne0+else-diagonal-eq0 w ↦
          let is : c.if-row-j-ne0.row ≡ minus a.p l.row (row_at t l.j) l.j t.columns = w.row-is ∙ w.subtract.ensures in
          record {
            ready = rw is (minus_ready a.p l.row l.j t.columns l.invariant.ready (row_at t l.j));
            comes_to =
                ap (insert left (l.j + 1) a.p t) is
                ∙ sym (insert_minus a.p t l.row l.j c.loop-j-test.true w.if-row-j-ne0.true (λ z. w.if-diagonal-eq0.false (w.diagonal.ensures ∙ z)))
                ∙ l.invariant.comes_to;
          }
      | else-row-j-ne0 w ↦
          record {
            ready = rw w.row-is l.invariant.ready;
            comes_to =
                ap (insert left (l.j + 1) a.p t) w.row-is ∙ sym (insert_skip a.p t l.row l.j c.loop-j-test.true w.if-row-j-ne0.false)
                ∙ l.invariant.comes_to;
          }
    ]

pub returns : goal.returns
returns c = sym (insert_end c.args.p c.args.self.now c.loop-j.row c.loop-j.j c.loop-j-test.false) ∙ c.loop-j.invariant.comes_to
