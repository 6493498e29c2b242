-- The rule of the candidate, 3 to 6, over any field. (Rules 1 and 2, bad points and images, stand in the layer below.)
use Rattle.std.specs.Prelude.{◌≡◌, Bool, true, false, List, [], ◌∷◌, map, length, ℕ, suc, ◌+◌, ◌≤◌, ◌<◌}
use Rattle.algebra.specs.Field.{Field}
use Rattle.algebra.specs.Series.{Seq}
use Rattle.algebra.specs.Four.{Exponents}
use Rattle.algebra.specs.Monomial.{Term, polynomial}
use Rattle.algebra.specs.Division.{Division}
use Rattle.field.specs.Numbers.{NO_GOOD_POINT, NO_SOLUTION, SEVERAL_SOLUTIONS, DOES_NOT_DIVIDE, CEILING_REACHED}
use Rattle.field.specs.Refusal.{fault}
use Rattle.poly.specs.Terms.{Polynomial}
use Rattle.poly.specs.PointValue.{Point, value}
use Rattle.poly.specs.Divides.{Divides}
use Rattle.poly.specs.PointImage.{Bad, Image}
use Rattle.divisor.specs.declared.CandidateRecord.{CandidateRecord}

-- what is counted: d, and the points that are bad, unlucky and kept
pub record Counts : Type 0 where
  pub d : ℕ
  pub bad : ℕ
  pub unlucky : ℕ
  pub kept : ℕ

-- no point of n is good
abbrev pub none_good : ℕ → Counts
none_good n = record { d = 0; bad = n; unlucky = 0; kept = 0 }

-- what the caller is told where the inputs pass: the number, at place 0, what is counted, the count of terms, and the steps of division
abbrev pub report : ℕ → Counts → ℕ → ℕ → CandidateRecord
report number counts terms steps =
    record {
      fault = fault number 0;
      degree = counts.d;
      bad = counts.bad;
      unlucky = counts.unlucky;
      kept = counts.kept;
      terms = terms;
      steps = steps;
    }

module _ (K : Field) where
  open K use {ring as R}
  open R use {Car, 𝟙, mul as ◌*◌}

  infixl 70 ◌*◌
  -- a good point that is kept, with its image
  pub record Kept : Type 0 where
    pub point : Point R
    pub image : Seq R

  module _ (A B : Polynomial K) where
    -- 3. The points in the order lent, with d the least degree if any is kept: the numbers of bad and of unlucky ones, and those kept.
    pub data Sorted (d : ℕ) : List (Point R) → ℕ → ℕ → List Kept → Type 0 where
      done : Sorted d [] 0 0 []
      bad : {at : Point R} {points : List (Point R)} {b u : ℕ} {kept : List Kept}
          → Bad K A B at → Sorted d points b u kept → Sorted d (at ∷ points) (suc b) u kept
      unlucky : {at : Point R} {points : List (Point R)} {b u : ℕ} {kept : List Kept} (degree : ℕ) (U : Seq R)
          → Image K A B at degree U → d < degree → Sorted d points b u kept → Sorted d (at ∷ points) b (suc u) kept
      keep : {at : Point R} {points : List (Point R)} {b u : ℕ} {kept : List Kept} (U : Seq R)
          → Image K A B at d U → Sorted d points b u kept → Sorted d (at ∷ points) b u (record { point = at; image = U } ∷ kept)

    abbrev pub AllBad : List (Point R) → Type 0
    AllBad [] = Unit {0}
    AllBad (at ∷ points) = Bad K A B at × AllBad points

  -- 4. Unknowns: one coefficient for each skeleton monomial, one multiplier for each kept point; the first multiplier is fixed at 1.
  pub record Unknowns : Type 0 where
    pub skeleton : Polynomial K
    pub multipliers : List Car

  abbrev pub First : Car → List Car → Type 0
  First m [] = ⊥
  First m (n ∷ ns) = n ≡ m

  -- Equations: at each kept point, for each power x^0 to x^7, the skeleton polynomial has there the multiplier times the coefficient of the image.
  abbrev pub Equations : Polynomial K → List Kept → List Car → Type 0
  Equations f [] [] = Unit {0}
  Equations f [] (m ∷ ms) = ⊥
  Equations f (k ∷ ks) [] = ⊥
  Equations f (k ∷ ks) (m ∷ ms) = ((i : ℕ) → i < 8 → value R f k.point i ≡ m * k.image i) × Equations f ks ms

  pub record Solution (monomials : List Exponents) (kept : List Kept) (s : Unknowns) : Type 0 where
    pub proposed : map (λ (t : Term R). t.exponents) s.skeleton ≡ monomials
    pub one_first : First 𝟙 s.multipliers
    pub holds : Equations s.skeleton kept s.multipliers

  abbrev pub NoSolution : List Exponents → List Kept → Type 0
  NoSolution monomials kept = (s : Unknowns) → ¬ Solution monomials kept s

  abbrev pub OnlySolution : List Exponents → List Kept → Unknowns → Type 0
  OnlySolution monomials kept s = Solution monomials kept s × ((t : Unknowns) → Solution monomials kept t → t ≡ s)

  abbrev pub SeveralSolutions : List Exponents → List Kept → Type 0
  SeveralSolutions monomials kept = (s t : Unknowns) × Solution monomials kept s × Solution monomials kept t × (¬ (s ≡ t))

  -- 5. G is the skeleton polynomial, zero coefficients dropped, all divided by its leading coefficient.
  unfoldable pub without_zeros : Polynomial K → Polynomial K
  without_zeros [] = []
  without_zeros (t ∷ ts) = elim (K.decide t.coefficient) [ yes e ↦ without_zeros ts | no n ↦ t ∷ without_zeros ts ]

  unfoldable pub divided_by : Car → Polynomial K → Polynomial K
  divided_by c [] = []
  divided_by c (t ∷ ts) = record { exponents = t.exponents; coefficient = t.coefficient * K.inv c } ∷ divided_by c ts

  unfoldable pub made_monic : Polynomial K → Polynomial K
  made_monic [] = []
  made_monic (t ∷ ts) = divided_by t.coefficient (t ∷ ts)

  abbrev pub divisor : Unknowns → Polynomial K
  divisor s = made_monic (without_zeros s.skeleton)

  -- 6. G is accepted if it divides A and B.
  abbrev pub DividesBoth : Polynomial K → Polynomial K → Polynomial K → Type 0
  DividesBoth A B G = Divides K (polynomial R G) (polynomial R A) × Divides K (polynomial R G) (polynomial R B)

  -- How many steps it takes to divide A by G and then, if G divides A, B by G: one for each quotient term of the rule of division.
  pub data Steps (A B G : Polynomial K) : ℕ → Type 0 where
    of_first : (qs : List (Term R)) → Division R (polynomial R A) (polynomial R G) qs false → Steps A B G (length qs)
    of_both : (qs rs : List (Term R)) (whole : Bool) → Division R (polynomial R A) (polynomial R G) qs true
        → Division R (polynomial R B) (polynomial R G) rs whole → Steps A B G (length qs + length rs)

  -- What the divisions by G settle under a ceiling on their steps: the number, the polynomial to be handed out, and the steps that are taken. Where they
  -- take more than the ceiling, a further quotient term is due when as many steps as the ceiling are taken.
  pub data Tried (A B G : Polynomial K) (ceiling : ℕ) : ℕ → Polynomial K → ℕ → Type 0 where
    cut_off : (n : ℕ) → Steps A B G n → ceiling < n → Tried A B G ceiling CEILING_REACHED [] ceiling
    rejected : (n : ℕ) → Steps A B G n → n ≤ ceiling → ¬ DividesBoth A B G → Tried A B G ceiling DOES_NOT_DIVIDE [] n
    accepted : (n : ℕ) → Steps A B G n → n ≤ ceiling → DividesBoth A B G → Tried A B G ceiling 0 G n

  -- What the kept points settle: the same, with no step where no division is begun.
  pub data Verdict (A B : Polynomial K) (monomials : List Exponents) (kept : List Kept) (ceiling : ℕ) : ℕ → Polynomial K → ℕ → Type 0 where
    unsolvable : NoSolution monomials kept → Verdict A B monomials kept ceiling NO_SOLUTION [] 0
    several : SeveralSolutions monomials kept → Verdict A B monomials kept ceiling SEVERAL_SOLUTIONS [] 0
    divided : (s : Unknowns) → OnlySolution monomials kept s → {number steps : ℕ} {G : Polynomial K} → Tried A B (divisor s) ceiling number G steps
        → Verdict A B monomials kept ceiling number G steps

  -- What the rule answers: the record, and the polynomial to be handed out.
  pub data RuleAnswer (A B : Polynomial K) (monomials : List Exponents) (points : List (Point R)) (ceiling : ℕ) : CandidateRecord → Polynomial K → Type 0 where
    all_bad : AllBad A B points → RuleAnswer A B monomials points ceiling (report NO_GOOD_POINT (none_good (length points)) 0 0) []
    some_good : (d b u : ℕ) (k : Kept) (kept : List Kept) → Sorted A B d points b u (k ∷ kept)
        → (number : ℕ) (G : Polynomial K) (steps : ℕ) → Verdict A B monomials (k ∷ kept) ceiling number G steps
        → RuleAnswer A B monomials points ceiling
        (report number (record { d = d; bad = b; unlucky = u; kept = length (k ∷ kept) }) (length G) steps) G
