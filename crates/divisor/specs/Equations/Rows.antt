-- The equations as rows of numbers, over any field: one entry for each skeleton monomial, one for the multiplier of each kept point after the first,
-- and a last one for the first point's multiplier, which is fixed at 1. Numbers that solve them stand for unknowns of the rule.
use Rattle.std.specs.Prelude.{List, [], ◌∷◌, ◌++◌, map, ℕ, zero, suc, length, replicate}
use Rattle.algebra.specs.Field.{Field}
use Rattle.algebra.specs.Mono.{mono}
use Rattle.algebra.specs.Four.{Exponents}
use Rattle.algebra.specs.Monomial.{Term}
use Rattle.poly.specs.Terms.{Polynomial}
use Rattle.poly.specs.PointValue.{Point, number_at}
use Rattle.divisor.specs.Rule.{Kept, Unknowns}

module _ (K : Field) where
  open K use {ring as R}
  open R use {Car, 𝟘, 𝟙, neg}

  -- the coefficient of x^i of a monomial at a point
  abbrev pub monomial_at : Point R → ℕ → Exponents → Car
  monomial_at at i e = mono R e.x (number_at R at (record { exponents = e; coefficient = 𝟙 })) i

  -- n entries, u at the place m and 0 elsewhere
  abbrev pub only_at : ℕ → ℕ → Car → List Car
  only_at zero m u = []
  only_at (suc n) zero u = u ∷ replicate n 𝟘
  only_at (suc n) (suc m) u = 𝟘 ∷ only_at n m u

  module _ (monomials : List Exponents) where
    -- the equation of x^i at a point: its multiplier stands in column m of the n columns behind the monomials, of which the last is fixed at 1
    abbrev pub row : (n m : ℕ) → Kept K → ℕ → List Car
    row n m k i = map (monomial_at k.point i) monomials ++ only_at n m (neg (k.image i))

    -- the equations of x^i and the following powers, j of them
    abbrev pub rows_at : (n m : ℕ) → Kept K → (i j : ℕ) → List (List Car)
    rows_at n m k i zero = []
    rows_at n m k i (suc j) = row n m k i ∷ rows_at n m k (suc i) j

    -- of the points after the first, whose multipliers stand in the columns from m on
    abbrev pub rows_from : (n m : ℕ) → List (Kept K) → List (List Car)
    rows_from n m [] = []
    rows_from n m (k ∷ ks) = rows_at n m k 0 8 ++ rows_from n (suc m) ks

    -- of kept points, of which n stand behind the first: the first one's multiplier is the last unknown
    abbrev pub kept_rows : ℕ → List (Kept K) → List (List Car)
    kept_rows n [] = []
    kept_rows n (k ∷ ks) = rows_at (suc n) n k 0 8 ++ rows_from (suc n) 0 ks

    -- all equations
    abbrev pub all_rows : Kept K → List (Kept K) → List (List Car)
    all_rows k ks = kept_rows (length ks) (k ∷ ks)

  -- the skeleton polynomial with these coefficients
  abbrev pub with_coefficients : List Exponents → List Car → Polynomial K
  with_coefficients [] cs = []
  with_coefficients (e ∷ es) [] = record { exponents = e; coefficient = 𝟘 } ∷ with_coefficients es []
  with_coefficients (e ∷ es) (c ∷ cs) = record { exponents = e; coefficient = c } ∷ with_coefficients es cs

  -- the numbers behind the coefficients
  abbrev pub behind : List Exponents → List Car → List Car
  behind [] v = v
  behind (e ∷ es) [] = []
  behind (e ∷ es) (c ∷ v) = behind es v

  -- the unknowns that numbers stand for, and the numbers of unknowns
  abbrev pub unknowns_of : List Exponents → List Car → Unknowns K
  unknowns_of es v = record { skeleton = with_coefficients es v; multipliers = 𝟙 ∷ behind es v }

  abbrev pub after_first : List Car → List Car
  after_first [] = []
  after_first (m ∷ ms) = ms

  abbrev pub vector_of : Unknowns K → List Car
  vector_of s = map (λ (t : Term R). t.coefficient) s.skeleton ++ after_first s.multipliers
