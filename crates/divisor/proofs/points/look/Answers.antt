-- `divisor::points::look` meets its contract: what is seen at a point is what it gives, so one more size and one more image stand.
use Rattle.std.proofs.Common.{◌≡◌, ◌∙◌, ap, arith, length}
use Rattle.poly.specs.declared.PointImage.{PointImage}
use Rattle.poly.specs.Image.Model.{image_of}
use Rattle.poly.specs.Image.Call.{point_model}
use Rattle.divisor.specs.Points.Model.{look_at}
use Rattle.divisor.specs.Points.Parts.{part_is}
use Rattle.divisor.specs.Points.Stores.{looks_next}
use Rattle.divisor.specs.Points.Looking.{look_eight}
use Rattle.divisor.proofs.points.look.Goals as goal

pub loop-i-preserved : goal.loop-i-preserved
loop-i-preserved c =
    let k = c.args.case.now in
    let e : c.image_at-seen.result ≡ look_at k.modulus k.first.now k.second.now k.points.now c.loop-i.i =
    point_model k.modulus k.first.now k.second.now _ c.requires.lists _ c.image_at-seen.ensures
    ∙ ap (image_of k.modulus k.first.now k.second.now) (part_is 3 c.loop-i.i k.points.now) in
    record {
      within = omega arith;
      looks =
          rw c.store.ensures
          (looks_next (omega (arith, c.requires.few)) c.requires.room c.loop-i.invariant.looks e
          (ap (λ (r : PointImage). length r.coefficients) e ∙ (look_eight c.requires c.loop-i.i).eight));
    }
