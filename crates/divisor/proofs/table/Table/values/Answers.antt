-- `divisor::table::Table::values` meets its contract: a turn of the loop is one of back substitution.
use Rattle.std.proofs.Common.{◌∙◌, sym, ap, ◌-◌, set, length-set}
use Rattle.field.specs.Loops.Fold.{fold_turn, fold_end, downwards_turn, downwards_end}
use Rattle.divisor.specs.Table.Model.{with_unknown, back}
use Rattle.divisor.proofs.table.Table.values.Goals as goal

pub loop-j-preserved : goal.loop-j-preserved
loop-j-preserved c =
    let a = c.args in
    let l = c.loop-j in
    record {
      size = length-set l.values (l.j - 1) c.value-value.result.value ∙ l.invariant.size;
      same =
          ap (λ e. back (l.j - 1) a.p a.self.now (set l.values (l.j - 1) e.value)) c.value-value.ensures
          ∙ sym (fold_turn (with_unknown a.p a.self.now) l.values (downwards_turn l.j c.loop-j-test.true)) ∙ l.invariant.same;
    }

pub returns : goal.returns
returns c =
    sym (fold_end (with_unknown c.args.p c.args.self.now) c.loop-j.values (downwards_end c.loop-j.j c.loop-j-test.false)) ∙ c.loop-j.invariant.same
