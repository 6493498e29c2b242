-- The model of the value of a term list at a point, as the code sums it up: from the last term to the first.
use Rattle.std.specs.Prelude.{◌≡◌, List, [], ◌∷◌, ℕ, ◌+◌, ◌*◌, ◌%◌, ◌<◌, length, get_or, set, replicate}
use Rattle.poly.specs.Keys.{exponents}
use Rattle.poly.specs.Terms.{key_of, coefficient_of}
use Rattle.poly.specs.LeadingPart.{x_of}
use Rattle.poly.specs.List.Right.{RightList}
use Rattle.poly.specs.Value.Monomial.{monomial}

-- a list that passes the checks, and a point of three numbers
pub record CanEvaluate (p : ℕ) (point ts : List ℕ) : Type 0 where
  pub above : 1 < p
  pub three : length point ≡ 3
  pub right : RightList p ts

-- a term's value, added to r
unfoldable pub plus_term : ℕ → List ℕ → ℕ → ℕ → ℕ
plus_term p point t r = (r + coefficient_of t * monomial (get_or point 0 0) (get_or point 1 0) (get_or point 2 0) (key_of t)) % p

-- each term added at its power of x
unfoldable pub with_term : ℕ → List ℕ → ℕ → List ℕ → List ℕ
with_term p point t r = set r (exponents (key_of t)).x (plus_term p point t (get_or r (exponents (key_of t)).x 0))

unfoldable pub value_of : ℕ → List ℕ → List ℕ → List ℕ
value_of p point [] = replicate 8 0
value_of p point (t ∷ ts) = with_term p point t (value_of p point ts)

-- what a value has at its list's highest power of x
abbrev pub leading_number : List ℕ → List ℕ → ℕ
leading_number terms value = get_or value (x_of (get_or terms 0 0)) 0

-- r is the value, and lead its x-leading coefficient
pub record Valued (p : ℕ) (point ts r : List ℕ) (lead : ℕ) : Type 0 where
  pub value : r ≡ value_of p point ts
  pub leading : lead ≡ leading_number ts r
