-- The rule of division, said of polynomials: done, stop, step. It carries the quotient's terms, the first found first.
use Rattle.std.specs.Prelude.{◌≡◌, Bool, true, false, List, [], ◌∷◌}
use Rattle.algebra.specs.Ring.{CommRing}
use Rattle.algebra.specs.SeriesRing.{S4}
use Rattle.algebra.specs.Four.{Exponents, ◌⊞◌, ◌≼◌, coef}
use Rattle.algebra.specs.Monomial.{Term, term}
use Rattle.algebra.specs.Lead.{Lead}
use Rattle.algebra.specs.GreatestExponent.{Variable, exponent, GreatestExponent}

module _ (R : CommRing) where
  -- e are the greatest exponents of f
  abbrev pub Most : Exponents → (S4 R).Car → Type 0
  Most e f = (v : Variable) → GreatestExponent R v (exponent v e) f

  -- what a division of f by g needs to know of them: g's leading monomial, and the greatest exponents of both
  pub record Sizes (f g : (S4 R).Car) : Type 0 where
    pub lead : Exponents
    pub leads : Lead R lead g
    pub most_f : Exponents
    pub is_most_f : Most most_f f
    pub most_g : Exponents
    pub is_most_g : Most most_g g

  module _ (f g : (S4 R).Car) (s : Sizes f g) where
    -- the monomial m over g's leading one is e: no exponent negative, none above f's greatest less g's
    pub record Over (m e : Exponents) : Type 0 where
      pub exact : m ≡ e ⊞ s.lead
      pub bounded : e ⊞ s.most_g ≼ s.most_f

    -- the division goes on with the remainder r, finds the terms and answers whether g divides
    pub data Goes : (S4 R).Car → List (Term R) → Bool → Type 0 where
      done : {r : (S4 R).Car} → r ≡ (S4 R).𝟘 → Goes r [] true
      stop : {r : (S4 R).Car} (m : Exponents) → Lead R m r → ((e : Exponents) → ¬ Over m e) → Goes r [] false
      step : {r : (S4 R).Car} {ts : List (Term R)} {whole : Bool} (m : Exponents) (t : Term R)
          → Lead R m r → Over m t.exponents → R.mul t.coefficient (coef R g s.lead) ≡ coef R r m
          → Goes ((S4 R).add r ((S4 R).neg ((S4 R).mul (term R t) g))) ts whole → Goes r (t ∷ ts) whole

  -- f over g by the rule
  pub record Division (f g : (S4 R).Car) (ts : List (Term R)) (whole : Bool) : Type 0 where
    pub sizes : Sizes f g
    pub goes : Goes f g sizes f ts whole
