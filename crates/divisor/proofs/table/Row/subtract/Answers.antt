-- `divisor::table::Row::subtract` meets its contract: how a loop that fills a part of an array begins, goes on and ends.
use Rattle.std.proofs.Common.{◌∙◌, ap, ◌+◌, ◌-◌, ◌*◌, ◌%◌, arith}
use Rattle.field.specs.Contract.{minus_product_of}
use Rattle.field.specs.Loops.Cells.{part_start, part_next, part_end}
use Rattle.divisor.specs.Table.Model.{cell}
use Rattle.divisor.proofs.table.Row.subtract.Goals as goal

pub loop-i-init : goal.loop-i-init
loop-i-init c = part_start (omega arith) c.requires.size

pub loop-i-preserved : goal.loop-i-preserved
loop-i-preserved c =
    let a = c.args in
    let i = c.loop-i.i in
    let made = c.minus_product-next.ensures
    ∙ (λ n. minus_product_of (c.of-cell.ensures n) (c.of-factor.ensures n) (c.of.ensures n)) in
    part_next c.loop-i.invariant c.loop-i-test.true c.requires.most
    (ap (λ e. e.value) made
    ∙ ap (λ x. (x + (a.p - cell a.self.now a.j) * cell a.kept.now i) % a.p) (c.loop-i.invariant.filled.left i (omega arith)))

pub returns : goal.returns
returns c = ap (λ x. record { cells = x }) (part_end c.loop-i.invariant c.loop-i-test.false)
