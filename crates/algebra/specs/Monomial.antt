-- One monomial with its coefficient, as a polynomial; a list of such terms, and what it means.
use Rattle.std.specs.Prelude.{◌≡◌, List, [], ◌∷◌}
use Rattle.algebra.specs.Ring.{CommRing}
use Rattle.algebra.specs.SeriesRing.{S4}
use Rattle.algebra.specs.Mono.{mono4}
use Rattle.algebra.specs.Four.{Exponents, ◌≺◌}

module _ (R : CommRing) where
  open R use {Car}

  -- u times the monomial with the exponents e
  unfoldable pub monomial : Exponents → Car → (S4 R).Car
  monomial e u = mono4 R e.x e.y e.z e.w u

pub record Term (R : CommRing) : Type 0 where
  pub exponents : Exponents
  pub coefficient : R.Car

module _ (R : CommRing) where
  abbrev pub term : Term R → (S4 R).Car
  term t = monomial R t.exponents t.coefficient

  -- the sum of the terms
  unfoldable pub polynomial : List (Term R) → (S4 R).Car
  polynomial [] = (S4 R).𝟘
  polynomial (t ∷ ts) = (S4 R).add (term t) (polynomial ts)

  -- the monomials fall, from below m; no coefficient is 0
  abbrev pub FallsBelow : Exponents → List (Term R) → Type 0
  FallsBelow m [] = Unit {0}
  FallsBelow m (t ∷ ts) = (t.exponents ≺ m) × (¬ (t.coefficient ≡ R.𝟘)) × FallsBelow t.exponents ts

  -- the monomials fall, from the first one on
  abbrev pub Falls : List (Term R) → Type 0
  Falls [] = Unit {0}
  Falls (t ∷ ts) = (¬ (t.coefficient ≡ R.𝟘)) × FallsBelow t.exponents ts
