-- `poly::euclid::divide` meets its contract: the loop keeps the model's quotient of what is left (`Dividing`).
use Rattle.std.proofs.Common.{sym, ap, ◌∙◌, ◌+◌, ◌-◌, ◌<◌, get_or, arith}
use Rattle.std.proofs.Math.ListN.{set, length-set}
use Rattle.field.specs.declared.elements.Element.{Element}
use Rattle.poly.specs.Euclid.Model.{reduced, put_quotient}
use Rattle.poly.specs.Euclid.Numbers.{subtract_eight}
use Rattle.poly.specs.Euclid.Quotient.{put_turn, put_end}
use Rattle.poly.proofs.euclid.divide.Goals as goal

pub loop-k-preserved : goal.loop-k-preserved
loop-k-preserved c =
    let l = c.loop-k in
    let a = c.args in
    let g = a.g.now in
    let v = get_or l.f (l.k - 1 + a.m) 0 in
    let e = rw c.of-c.ensures at c.subtract.ensures in
    let pos : 0 < a.p = omega (arith, l.invariant.numbers.below 0) in
    record {
      within = omega arith;
      numbers = rw e (subtract_eight a.p pos v (l.k - 1) l.f g l.invariant.numbers);
      long = length-set l.q (l.k - 1) _ ∙ l.invariant.long;
      same =
          rw e
          (l.invariant.same ∙ put_turn a.p a.m g l.k l.f l.q (omega arith)
          ∙ ap (λ (x : Element). put_quotient a.p a.m g (l.k - 1) (reduced a.p a.m g (l.k - 1) l.f) (set l.q (l.k - 1) x.value))
          (sym c.of-c.ensures));
    }

pub returns : goal.returns
returns c =
    let l = c.loop-k in
    sym (l.invariant.same ∙ put_end c.args.p c.args.m c.args.g.now l.k l.f l.q (omega arith))
