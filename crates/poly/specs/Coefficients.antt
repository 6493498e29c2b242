-- Polynomials in x of degree at most 7 as eight numbers below p, the coefficient of x^0 first.
use Rattle.std.specs.Prelude.{◌≡◌, List, ℕ, ◌<◌, length, get_or}
use Rattle.field.specs.Fp.{Fp, el}

-- eight numbers below p
pub record Eight (p : ℕ) (f : List ℕ) : Type 0 where
  pub eight : length f ≡ 8
  pub below : (i : ℕ) → get_or f i 0 < p

-- the polynomial in x that a list of coefficients is
abbrev pub series : (p : ℕ) → List ℕ → ℕ → Fp p
series p f = λ i. el p (get_or f i 0)
