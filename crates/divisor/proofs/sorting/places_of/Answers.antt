-- `divisor::sorting::places_of` meets its contract. The loop's invariant: the array has the places before i, as many as are counted.
use Rattle.std.proofs.Common.{◌∙◌, refl, ap, [], ◌∷◌, length, add-one, length-append, arith}
use Rattle.divisor.specs.Sorting.Model.{places_before}
use Rattle.divisor.specs.Sorting.Places.{places_same, places_other, places_start, places_passed, places_taken}
use Rattle.divisor.proofs.sorting.places_of.Goals as goal
use Rattle.divisor.proofs.sorting.places_of.Goals.{then-size-m, else-size-m}

pub loop-i-init : goal.loop-i-init
loop-i-init c =
    record {
      few = omega arith;
      counted = (unfold places_before in refl);
      has = places_start c.args.m c.args.sizes.now;
    }

pub loop-i-preserved : goal.loop-i-preserved
loop-i-preserved c =
    let a = c.args in
    let l = c.loop-i in
    elim c.if-size-m.branch [
      | then-size-m w ↦
          let ps = places_before a.m a.sizes.now l.i in
          let more = ap length (ap (places_before a.m a.sizes.now) (add-one l.i) ∙ places_same a.m a.sizes.now l.i w.if-size-m.true) in
          record {
            few = omega arith;
            counted = omega (arith, more, length-append ps (l.i ∷ []));
            has = rw w.places-is (places_taken a.m a.sizes.now l.i l.invariant.has w.if-size-m.true (omega arith) l.count l.invariant.counted);
          }
      | else-size-m w ↦
          let same = ap length (ap (places_before a.m a.sizes.now) (add-one l.i) ∙ places_other a.m a.sizes.now l.i w.if-size-m.false) in
          record {
            few = omega arith;
            counted = omega (arith, same);
            has = rw w.places-is (places_passed a.m a.sizes.now l.i l.invariant.has w.if-size-m.false);
          }
    ]
