-- `poly::division::most` meets its contract. The loop is a fold: each term raises the exponents so far (`raised`), and that gives the greatest.
use Rattle.std.proofs.Common.{◌≡◌, ◌≤◌, sym, ◌∙◌, ap, subst, arith}
use Rattle.algebra.specs.Four.{Exponents}
use Rattle.algebra.specs.GreatestExponent.{Variable, in_x, in_y, in_z, in_w}
use Rattle.field.specs.Loops.Fold.{folding_next, folding_end}
use Rattle.poly.specs.Keys.{key}
use Rattle.poly.specs.Key.Model.{Packable}
use Rattle.poly.specs.Division.Model.{most, most_of}
use Rattle.poly.specs.Division.GreatestExponents.{most_small}
use Rattle.poly.specs.Division.Turns.{raised_most}
use Rattle.poly.proofs.division.most.Goals as goal

pub loop-t-preserved : goal.loop-t-preserved
loop-t-preserved c = folding_next c.loop-t.invariant c.loop-t-test.true (cc)

pub pack-requires : goal.pack-requires
pack-requires c =
    let l = c.loop-t in
    let small : (v : Variable) → most v c.args.terms.now ≤ 7 = λ v. omega (arith, most_small v c.args.terms.now c.requires) in
    let all : record { x = l.x; y = l.y; z = l.z; w = l.w } ≡ most_of c.args.terms.now =
    folding_end l.invariant c.loop-t-test.false ∙ raised_most c.args.terms.now in
    subst (λ (e : Exponents). Packable e.x e.y e.z e.w) (sym all)
    (record { x_small = small in_x; y_small = small in_y; z_small = small in_z; w_small = small in_w })

pub returns : goal.returns
returns c = c.pack.ensures ∙ ap key (folding_end c.loop-t.invariant c.loop-t-test.false ∙ raised_most c.args.terms.now)
