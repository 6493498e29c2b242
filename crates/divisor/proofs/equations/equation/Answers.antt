-- `divisor::equations::equation` meets its contract: a turn sets the number of a key, or leaves 0.
use Rattle.std.proofs.Common.{◌∙◌, sym, ap, ℕ, ◌%◌, get_or, arith}
use Rattle.field.specs.Modulus.Laws.{listed_above}
use Rattle.field.specs.Loops.Cells.{filled_next}
use Rattle.poly.specs.Value.Monomial.{monomial}
use Rattle.divisor.specs.Equations.Turns.{equation_passed, equation_end}
use Rattle.divisor.specs.Equations.RowLaws.{number_here}
use Rattle.divisor.proofs.equations.equation.Goals as goal
use Rattle.divisor.proofs.equations.equation.Goals.{then-x-i, else-x-i}

pub monomial_at-requires : goal.monomial_at-requires
monomial_at-requires c =
    let r = c.requires in
    (omega (arith, r.y_same, listed_above r.listed), r.z_same ∙ sym r.y_same, r.w_same ∙ sym r.y_same)

pub loop-j-preserved : goal.loop-j-preserved
loop-j-preserved c =
    let a = c.args in
    let l = c.loop-j in
    let p = a.u.modulus in
    let key = get_or a.skeleton.now l.j 0 in
    elim c.if-x-i.branch [
      | then-x-i w ↦
          rw w.row-is
          (filled_next l.invariant (omega (arith, c.requires.behind, c.requires.within))
          (ap (λ e. e.value) w.monomial_at.ensures ∙ ap (λ (n : ℕ). monomial a.y.value a.z.value a.w.value key % n) c.requires.y_same
          ∙ sym (number_here p a.y.value a.z.value a.w.value a.i key (sym c.x.ensures ∙ w.if-x-i.true))))
      | else-x-i w ↦
          rw w.row-is
          (equation_passed p a.y.value a.z.value a.w.value a.skeleton.now a.i l.j l.row l.invariant
          (omega (arith, c.requires.behind, c.requires.within)) (λ e. w.if-x-i.false (c.x.ensures ∙ e)))
    ]

pub returns : goal.returns
returns c =
    let a = c.args in
    let l = c.loop-j in
    equation_end a.u.modulus a.y.value a.z.value a.w.value a.skeleton.now a.i l.j l.row l.invariant a.column a.u.value c.loop-j-test.false
    (omega arith) c.requires.behind c.requires.within
