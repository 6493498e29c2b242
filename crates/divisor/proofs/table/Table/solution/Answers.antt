-- `divisor::table::Table::solution` meets its contract, by the diagonal.
use Rattle.std.proofs.Common.{◌∙◌, sym, ap, arith}
use Rattle.divisor.specs.declared.table.Solution.TheVariants.{One}
use Rattle.divisor.specs.Table.Turns.{solved_none, solved_several, solved_one}
use Rattle.divisor.proofs.table.Table.solution.Goals as goal

pub returns-then-diagonal-ne0 : goal.returns-then-diagonal-ne0
returns-then-diagonal-ne0 c = sym (solved_none c.args.p c.args.self.now (λ z. c.if-diagonal-ne0.true (c.diagonal.ensures ∙ z)))

pub returns-then-diagonal-eq0 : goal.returns-then-diagonal-eq0
returns-then-diagonal-eq0 c =
    sym
    (solved_several c.args.p c.args.self.now (sym c.diagonal.ensures ∙ c.if-diagonal-ne0.false) c.loop-j.j c.loop-j-test.true
    (sym c.diagonal-in-loop-j.ensures ∙ c.if-diagonal-eq0.true))

pub returns : goal.returns
returns c =
    ap One c.values.ensures
    ∙ sym
    (solved_one c.args.p c.args.self.now (sym c.diagonal.ensures ∙ c.if-diagonal-ne0.false) (λ k l. c.loop-j.invariant k (omega arith)))
