-- Demand 3, stated over the promise of the candidate call alone: what an accepted polynomial is, and when a common divisor must come out.
use Rattle.std.specs.Prelude.{◌≡◌, ◌⊎◌, List, [], ◌∷◌, ℕ, ◌+◌, ◌≤◌, length}
use Rattle.algebra.specs.Field.{Field}
use Rattle.algebra.specs.SeriesRing.{SeriesR, S4}
use Rattle.algebra.specs.Degree.{Top}
use Rattle.algebra.specs.Polynomials.{D4, domain}
use Rattle.algebra.specs.Four.{Exponents, coef}
use Rattle.algebra.specs.Monomial.{polynomial, monomial, Falls}
use Rattle.field.specs.Moduli.{Listed}
use Rattle.field.specs.Refusal.{Passes}
use Rattle.poly.specs.Terms.{Polynomial}
use Rattle.poly.specs.PointValue.{Point}
use Rattle.poly.specs.Divides.{Divides}
use Rattle.poly.specs.PointImage.{Bad}
use Rattle.divisor.specs.Rule.{DividesBoth, Kept, Sorted, Unknowns, OnlySolution}
use Rattle.divisor.specs.Candidate.{Call, most_steps, table, Numbers, A, B, monomials, lent_points, handed_out, Result}

module _ (K : Field) where
  open K use {ring as R}

  -- f has the degree n in x
  abbrev pub DegreeX : ℕ → (S4 R).Car → Type 0
  DegreeX = Top (SeriesR (SeriesR (SeriesR R)))

  -- f has finitely many terms, of whatever exponents
  abbrev pub IsPolynomial : (S4 R).Car → Type 0
  IsPolynomial = (D4 R (domain K)).P

  -- G divides A and B, it has the degree d in x, and no common divisor, of whatever exponents, has a higher one
  pub record GreatestInX (A B G : Polynomial K) (d : ℕ) : Type 0 where
    pub divides : DividesBoth K A B G
    pub degree : DegreeX d (polynomial R G)
    pub greatest : (H : (S4 R).Car) → IsPolynomial H → Divides K H (polynomial R A) → Divides K H (polynomial R B) → (h : ℕ) → DegreeX h H → h ≤ d

  -- some point is good
  abbrev pub SomeGood : Polynomial K → Polynomial K → List (Point R) → Type 0
  SomeGood A B [] = ⊥
  SomeGood A B (at ∷ points) = (¬ Bad K A B at) ⊎ SomeGood A B points

  abbrev pub Proposed : List Exponents → Exponents → Type 0
  Proposed [] e = ⊥
  Proposed (m ∷ ms) e = (m ≡ e) ⊎ Proposed ms e

  -- f has only proposed monomials
  abbrev pub OnlyProposed : List Exponents → (S4 R).Car → Type 0
  OnlyProposed ms f = (e : Exponents) → ¬ (coef R f e ≡ R.𝟘) → Proposed ms e

  abbrev pub LeadsWith : R.Car → Polynomial K → Type 0
  LeadsWith c [] = ⊥
  LeadsWith c (t ∷ ts) = t.coefficient ≡ c

  -- a number as a polynomial
  abbrev pub constant : R.Car → (S4 R).Car
  constant c = monomial R (record { x = 0; y = 0; z = 0; w = 0 }) c

  -- f has n terms: it is the sum of n terms that fall
  abbrev pub HasTerms : ℕ → (S4 R).Car → Type 0
  HasTerms n f = (ts : Polynomial K) × Falls R ts × (polynomial R ts ≡ f) × (length ts ≡ n)

  -- G is C made monic: its leading coefficient is 1, and C is a number times G
  pub record MadeMonic (C : (S4 R).Car) (G : Polynomial K) : Type 0 where
    pub leading : LeadsWith R.𝟙 G
    pub factor : R.Car
    pub multiple : (S4 R).mul (polynomial R G) (constant factor) ≡ C

-- First half: where the number is 0, what stands first in the output divides A and B, has the degree d in x, and no common divisor has a higher one.
abbrev pub AcceptedIsGreatest : Call → Result → Type 0
AcceptedIsGreatest c r =
    r.found.fault.number ≡ 0
    → (listed : Listed c.modulus) × GreatestInX (Numbers c listed) (A c listed) (B c listed) (handed_out c listed r) r.found.degree

-- the lent points sorted, of which one at least is kept
pub record SortedOut (c : Call) (listed : Listed c.modulus) : Type 0 where
  pub d : ℕ
  pub bad : ℕ
  pub unlucky : ℕ
  pub first : Kept (Numbers c listed)
  pub others : List (Kept (Numbers c listed))
  pub sorted : Sorted (Numbers c listed) (A c listed) (B c listed) d (lent_points c listed) bad unlucky (first ∷ others)

module _ (c : Call) (listed : Listed c.modulus) where
  -- C divides A and B, it has the degree d in x and only proposed monomials
  pub record ProposedDivisor (d : ℕ) (C : (S4 (Numbers c listed).ring).Car) : Type 0 where
    pub finite : IsPolynomial (Numbers c listed) C
    pub of_first : Divides (Numbers c listed) C (polynomial (Numbers c listed).ring (A c listed))
    pub of_second : Divides (Numbers c listed) C (polynomial (Numbers c listed).ring (B c listed))
    pub degree : DegreeX (Numbers c listed) d C
    pub proposed : OnlyProposed (Numbers c listed) (monomials c listed) C

  -- the ceiling is at least the terms of both quotients together, of A by C and of B by C
  abbrev pub CeilingCovers : {d : ℕ} {C : (S4 (Numbers c listed).ring).Car} → ProposedDivisor d C → Type 0
  CeilingCovers h = (m n : ℕ) × HasTerms (Numbers c listed) m h.of_first.quo × HasTerms (Numbers c listed) n h.of_second.quo × (m + n ≤ c.ceiling)

  -- the equations of the sorted points have exactly one solution
  abbrev pub OneSolution : SortedOut c listed → Type 0
  OneSolution found = (s : Unknowns (Numbers c listed)) × OnlySolution (Numbers c listed) (monomials c listed) (found.first ∷ found.others) s

  -- Where they have, and a divisor has the least image degree and only proposed monomials, and the ceiling covers its quotients, the number is 0 and
  -- that divisor, made monic, is handed out.
  abbrev pub ComesOut : Result → SortedOut c listed → Type 0
  ComesOut r found = OneSolution found → (C : (S4 (Numbers c listed).ring).Car) (h : ProposedDivisor found.d C) → CeilingCovers h
      → (r.found.fault.number ≡ 0) × MadeMonic (Numbers c listed) C (handed_out c listed r)

-- Second half: where the inputs pass and the points are sorted, one of them kept.
abbrev pub CommonDivisorComesOut : Call → Result → Type 0
CommonDivisorComesOut c r = Passes (table c) → (listed : Listed c.modulus) (found : SortedOut c listed) → ComesOut c listed r found

-- Where the inputs pass and a lent point is good, some degree is the least and some point is kept.
abbrev pub GoodPointSorts : Call → Type 0
GoodPointSorts c =
    Passes (table c) → (listed : Listed c.modulus) → SomeGood (Numbers c listed) (A c listed) (B c listed) (lent_points c listed) → SortedOut c listed

-- Second half, from a good point: where the inputs pass and a point is good, the points sort, and with the d and the kept points found so a common
-- divisor comes out as above.
abbrev pub GoodPointSuffices : Call → Result → Type 0
GoodPointSuffices c r =
    Passes (table c) → (listed : Listed c.modulus) → SomeGood (Numbers c listed) (A c listed) (B c listed) (lent_points c listed)
    → (found : SortedOut c listed) × ComesOut c listed r found

-- A ceiling of 8,192 or more covers the quotients of every such divisor.
abbrev pub LargeCeilingCovers : Call → Type 0
LargeCeilingCovers c =
    most_steps ≤ c.ceiling → Passes (table c) → (listed : Listed c.modulus) (found : SortedOut c listed) → OneSolution c listed found
    → (C : (S4 (Numbers c listed).ring).Car) (h : ProposedDivisor c listed found.d C) → CeilingCovers c listed h
