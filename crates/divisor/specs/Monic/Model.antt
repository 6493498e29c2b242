-- The divisor of a solution in plain numbers: zero coefficients dropped, the others times the inverse of the first, as terms.
use Rattle.std.specs.Prelude.{true, false, List, [], ◌∷◌, ℕ, ◌*◌, ◌%◌, ◌≤◌, ◌<◌, eqb, length, get_or, take}
use Rattle.field.specs.Moduli.{Listed}
use Rattle.field.specs.Fp.{el, inv}
use Rattle.poly.specs.Terms.{keyed}
use Rattle.divisor.specs.Candidate.{most_keys}

-- the first coefficient but 0, or 0
unfoldable pub leading : List ℕ → ℕ
leading [] = 0
leading (c ∷ cs) = elim (eqb c 0) [ true ↦ leading cs | false ↦ c ]

-- the terms of the keys whose coefficient is not 0, each coefficient times f
unfoldable pub scaled_terms : ℕ → ℕ → List ℕ → List ℕ → List ℕ
scaled_terms p f [] cs = []
scaled_terms p f (k ∷ ks) [] = []
scaled_terms p f (k ∷ ks) (c ∷ cs) =
    elim (eqb c 0) [ true ↦ scaled_terms p f ks cs | false ↦ keyed k ((c * f) % p) ∷ scaled_terms p f ks cs ]

-- all divided by the leading coefficient
abbrev pub monic_terms : ℕ → List ℕ → List ℕ → List ℕ
monic_terms p ks cs = scaled_terms p (inv (el p (leading cs))).val ks cs

-- what making the divisor asks for: coefficients of the skeleton, below p, not all 0
pub record Solvable (p : ℕ) (ks values : List ℕ) : Type 0 where
  pub listed : Listed p
  pub few : length ks ≤ most_keys
  pub long : length ks ≤ length values
  pub below : (i : ℕ) → get_or values i 0 < p
  pub led : 0 < leading (take (length ks) values)
