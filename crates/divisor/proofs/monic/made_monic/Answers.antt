-- `divisor::monic::made_monic` meets its contract: the leading coefficient has an inverse, and a turn passes a key or pushes its term.
use Rattle.std.proofs.Common.{sym, ◌∙◌, ap, subst, ℕ, List, [], ◌∷◌, ◌++◌, take, length, get_or, ◌+◌, ◌*◌, ◌%◌, append_assoc, append-nil, length-append, arith}
use Rattle.field.specs.Contract.{element, product_of, Invertible, Inverse}
use Rattle.field.specs.Elements.Link.{inverse_val}
use Rattle.field.specs.Modulus.Laws.{listed_prime, listed_positive}
use Rattle.poly.specs.Terms.{keyed}
use Rattle.divisor.specs.Monic.Model.{scaled_terms}
use Rattle.divisor.specs.Monic.Terms.{leading_below}
use Rattle.divisor.specs.Sorting.Turns.{terms_left, left_passed, left_taken, left_none}
use Rattle.divisor.proofs.monic.made_monic.Goals as goal
use Rattle.divisor.proofs.monic.made_monic.Goals.{then-values-i-ne0, else-values-i-ne0}

pub inverse-inverse-requires : goal.inverse-inverse-requires
inverse-inverse-requires c =
    let a = c.args in
    subst Invertible (sym (c.of-lead.ensures ∙ ap (element a.p) c.leading.ensures))
    record {
      is_listed = c.requires.listed;
      below = leading_below a.p (listed_positive c.requires.listed) (length a.skeleton.now) a.values.now c.requires.below;
      nonzero = c.requires.led;
    }

pub loop-i-preserved : goal.loop-i-preserved
loop-i-preserved c =
    let a = c.args in
    let l = c.loop-i in
    let inverse = c.inverse-inverse.result in
    let long = c.requires.long in
    let later = terms_left a.p inverse.value a.skeleton.now a.values.now (l.i + 1) in
    elim c.if-values-i-ne0.branch [
      | then-values-i-ne0 w ↦
          let term = keyed (get_or a.skeleton.now l.i 0) (get_or a.values.now l.i 0 * inverse.value % a.p) in
          let made = w.product-coefficient.ensures ∙ ap (λ e. product_of e inverse) w.of-value.ensures in
          let pushed = w.divisor-is ∙ w.push.ensures
          ∙ ap (λ t. l.divisor ++ (t ∷ [])) (w.term.ensures ∙ ap (λ e. keyed (get_or a.skeleton.now l.i 0) e.value) made) in
          record {
            few = omega (arith, ap length pushed, length-append l.divisor (term ∷ []));
            made =
                ap (λ (x : List ℕ). x ++ later) pushed ∙ append_assoc l.divisor (term ∷ []) later
                ∙ ap (λ (x : List ℕ). l.divisor ++ x)
                (sym (left_taken a.p inverse.value a.skeleton.now a.values.now l.i long c.loop-i-test.true w.if-values-i-ne0.true)) ∙ l.invariant.made;
          }
      | else-values-i-ne0 w ↦
          record {
            few = omega (arith, ap length w.divisor-is);
            made =
                ap (λ (x : List ℕ). x ++ later) w.divisor-is
                ∙ ap (λ (x : List ℕ). l.divisor ++ x)
                (sym (left_passed a.p inverse.value a.skeleton.now a.values.now l.i long c.loop-i-test.true w.if-values-i-ne0.false)) ∙ l.invariant.made;
          }
    ]

pub returns : goal.returns
returns c =
    let a = c.args in
    let l = c.loop-i in
    let inverse = c.inverse-inverse.result in
    sym (append-nil l.divisor)
    ∙ ap (λ (x : List ℕ). l.divisor ++ x)
    (sym (left_none a.p inverse.value a.skeleton.now a.values.now l.i c.requires.long c.loop-i-test.false)) ∙ l.invariant.made
    ∙ ap (λ (f : ℕ). scaled_terms a.p f a.skeleton.now (take (length a.skeleton.now) a.values.now))
    (inverse_val _ _ (listed_prime c.requires.listed)
    (subst (λ e. Inverse e inverse) (c.of-lead.ensures ∙ ap (element a.p) c.leading.ensures) c.inverse-inverse.ensures))
