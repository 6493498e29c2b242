-- `divisor::monic::leading` meets its contract: 0 is passed, and another number is the leading one.
use Rattle.std.proofs.Common.{◌≡◌, sym, ◌∙◌, ap, List, ◌∷◌, ℕ, ◌+◌, ◌<◌, length, get_or, drop, add-one, drop-cons, drop_of_length-le}
use Rattle.divisor.specs.Monic.Model.{leading}
use Rattle.divisor.specs.Monic.Terms.{leading_zero, leading_here}
use Rattle.divisor.proofs.monic.leading.Goals as goal

-- what is left begins with the coefficient that is read
left : (cs : List ℕ) (i : ℕ) → i < length cs → leading (drop i cs) ≡ leading (get_or cs i 0 ∷ drop (i + 1) cs)
left cs i h = ap leading (drop-cons cs i 0 h ∙ ap (λ (k : ℕ). get_or cs i 0 ∷ drop k cs) (sym (add-one i)))

pub returns-then-coefficient-ne0 : goal.returns-then-coefficient-ne0
returns-then-coefficient-ne0 c =
    let i = c.loop-coefficient.coefficient-index in
    sym (c.loop-coefficient.invariant ∙ left c.args.coefficients.now i c.loop-coefficient-test.true ∙ leading_here _ _ c.if-coefficient-ne0.true)

pub loop-coefficient-preserved : goal.loop-coefficient-preserved
loop-coefficient-preserved c =
    let i = c.loop-coefficient.coefficient-index in
    c.loop-coefficient.invariant ∙ left c.args.coefficients.now i c.loop-coefficient-test.true ∙ leading_zero _ _ c.if-coefficient-ne0.false

pub returns : goal.returns
unfolding leading
returns c =
    sym (c.loop-coefficient.invariant ∙ ap leading (drop_of_length-le c.args.coefficients.now {i = c.loop-coefficient.coefficient-index} c.loop-coefficient-test.false))
