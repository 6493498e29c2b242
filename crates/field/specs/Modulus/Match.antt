-- The numbers of a `match` arm, as the test of a table.
use Rattle.std.specs.Prelude.{◌≡◌, refl, true, false, ◌||◌, List, [], ◌∷◌, ℕ, eqb}
use Rattle.std.proofs.Common.{ap, ◌∙◌, inl, inr, eq-eqb, ne_eqb}
use Rattle.std.proofs.Math.Bool.{or-true}
use types.Run.{OneOf}
use Rattle.field.specs.Moduli.{among}

pub among_true : (ms : List ℕ) (p : ℕ) → OneOf ms p → among p ms ≡ true
among_true [] p h = absurd h
among_true (k ∷ []) p h = rw (eq-eqb p k h)
among_true (k ∷ k' ∷ ms) p (inl e) = rw (eq-eqb p k e)
among_true (k ∷ k' ∷ ms) p (inr h) = ap (eqb p k ||◌) (among_true (k' ∷ ms) p h) ∙ or-true (eqb p k)

pub among_false : (ms : List ℕ) (p : ℕ) → ¬ OneOf ms p → among p ms ≡ false
among_false [] p h = refl
among_false (k ∷ []) p h = rw (ne_eqb p k h)
among_false (k ∷ k' ∷ ms) p h = rw (ne_eqb p k (λ e. h (inl e))) (among_false (k' ∷ ms) p (λ r. h (inr r)))
