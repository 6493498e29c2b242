-- `poly::euclid::reduce` meets its contract: the loop keeps the model's answer on the powers that are left (`Reducing`).
use Rattle.std.proofs.Common.{sym, ◌∙◌, ◌+◌, ◌-◌, ◌<◌, get_or, arith}
use Rattle.field.specs.Loops.Fold.{fold_turn, fold_end, downwards_turn, downwards_end}
use Rattle.poly.specs.Euclid.Model.{reduced}
use Rattle.poly.specs.Euclid.Numbers.{subtract_eight}
use Rattle.poly.proofs.euclid.reduce.Goals as goal

pub loop-k-preserved : goal.loop-k-preserved
loop-k-preserved c =
    let l = c.loop-k in
    let a = c.args in
    let g = a.g.now in
    let v = get_or l.f (l.k - 1 + a.m) 0 in
    let e = rw c.of-c.ensures at c.subtract.ensures in
    let pos : 0 < a.p = omega (arith, l.invariant.numbers.below 0) in
    record {
      within = omega arith;
      numbers = rw e (subtract_eight a.p pos v (l.k - 1) l.f g l.invariant.numbers);
      same = rw e (l.invariant.same ∙ fold_turn (reduced a.p a.m g) l.f (downwards_turn l.k (omega arith)));
    }

pub returns : goal.returns
returns c =
    let l = c.loop-k in
    sym (l.invariant.same ∙ fold_end (reduced c.args.p c.args.m c.args.g.now) l.f (downwards_end l.k (omega arith)))
