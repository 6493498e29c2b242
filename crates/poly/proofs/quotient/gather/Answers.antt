-- `poly::quotient::gather` meets its contract: the terms of the cells from k on are put, and those of the cells below k are left.
use Rattle.std.proofs.Common.{length, subst, arith}
use Rattle.field.specs.Loops.Putting.{Putting, putting_one, putting_end, puts_count, puts_written}
use Rattle.poly.specs.Division.Spread.{gather_passed, gather_taken}
use Rattle.poly.specs.Division.SpreadModel.{gathered}
use Rattle.poly.specs.Division.Turns.{gather_none}
use Rattle.poly.proofs.quotient.gather.Goals as goal

pub loop-k-preserved-then-c-ne0 : goal.loop-k-preserved-then-c-ne0
loop-k-preserved-then-c-ne0 c = record {
  few = omega arith;
  terms = rw c.term.ensures (putting_one c.loop-k.invariant.terms (gather_taken (omega arith) c.args.cells.now c.if-c-ne0.true));
}

pub loop-k-preserved : goal.loop-k-preserved
loop-k-preserved c =
    let cells = c.args.cells.now in
    record {
      few = omega arith;
      terms =
          subst (Putting (gathered (length cells) cells) 0 c.loop-k.n c.args.out.now c.loop-k.out)
          (gather_passed (omega arith) cells c.if-c-ne0.false) c.loop-k.invariant.terms;
    }

pub returns : goal.returns
returns c =
    let all = putting_end c.loop-k.invariant.terms (gather_none c.loop-k.k c.args.cells.now (omega arith)) in
    record { count = puts_count all; output = puts_written all (omega (arith, puts_count all)) }
