-- Demand 3, second half, of the rule: where the kept points settle one solution, and A and B have a common divisor of degree d in x with only
-- proposed monomials, that one, made monic, is the answer.
use Rattle.std.specs.Prelude.{◌≡◌, List, [], ◌∷◌, map, length, ℕ, ◌≤◌}
use Rattle.std.proofs.Common.{sym, ◌∙◌, ap, subst}
use Rattle.algebra.specs.Field.{Field}
use Rattle.algebra.specs.Series.{Seq}
use Rattle.algebra.specs.SeriesRing.{SeriesR}
use Rattle.algebra.specs.Degree.{Top}
use Rattle.algebra.specs.Polynomials.{SeriesD, domain}
use Rattle.algebra.specs.Four.{Exponents}
use Rattle.algebra.specs.Monomial.{Term, polynomial}
use Rattle.algebra.specs.Laws.Ring.{one_mul}
use Rattle.algebra.specs.Laws.Solver.{◌⊗◌, ◌≗◌, ring3}
use Rattle.algebra.specs.Laws.SameDegree.{same_degree_multiple}
use Rattle.algebra.specs.Laws.Divides.{div_from}
use Rattle.poly.specs.Terms.{Polynomial}
use Rattle.poly.specs.PointValue.{Point, value}
use Rattle.poly.specs.PointImage.{Image}
use Rattle.poly.specs.Image.Laws.{image_top}
use Rattle.poly.specs.Value.Laws.{polynomial_finite, value_finite, value_of_polynomial, Bounded}
use Rattle.divisor.specs.Rule.{report, DividesBoth, Kept, Sorted, Unknowns, Equations, Solution, OnlySolution, without_zeros, divided_by}
use Rattle.divisor.specs.Rule.{made_monic, divisor, Steps, accepted, divided, RuleAnswer, some_good}
use Rattle.divisor.specs.Demands.{DegreeX}
use Rattle.divisor.specs.Monic.Value.{value_divided}
use Rattle.divisor.specs.Monic.Laws.{monic_of_multiple, monic_divides, divided_monomials}
use Rattle.divisor.specs.Demand.Degree.{divisor_at_good_point, value_divides_image, Images, kept_images}

module _ (K : Field) (A B : Polynomial K) (first : Bounded K A) (second : Bounded K B) where
  open K use {ring as R}
  open R use {Car, mul as ◌*◌}

  infixl 70 ◌*◌
  module _ (C : Polynomial K) (both : DividesBoth K A B C) (d : ℕ) (degree : DegreeX K d (polynomial R C)) where
    -- at a kept point the value of C has the degree d
    value_top : (at : Point R) (U : Seq R) → Image K A B at d U → Top R d (value R C at)
    value_top at U i = subst (Top R d) (value_of_polynomial K C at (polynomial_finite K C))
        (divisor_at_good_point K A B first second at i.good (polynomial R C) (polynomial_finite K C) both.0 both.1 d degree)

    -- and so it is its leading coefficient times the image
    value_is_multiple : (at : Point R) (U : Seq R) → Image K A B at d U
        → (n : ℕ) → value R C at n ≡ value R C at d * U n
    value_is_multiple at U i n =
        let m = same_degree_multiple R (domain K) d (value R C at) U (value_finite K C at) (value_top at U i) (image_top K A B at d U i)
        (div_from (SeriesR R) (SeriesD R (domain K)) _ _ U (value_of_polynomial K C at (polynomial_finite K C))
        (value_divides_image K A B first second at d U i (polynomial R C) (polynomial_finite K C) both.0 both.1)) in
        sym (one_mul R _) ∙ ap (◌* value R C at n) (sym (m.1 d ∙ i.monic.leads))
        ∙ ring3 R (λ c e v. c ⊗ e ⊗ v ≗ e ⊗ (c ⊗ v)) tt m.0 (value R C at d) (value R C at n) ∙ ap (value R C at d *◌) (m.1 n)

    -- the kept points, with C over a number and its leading coefficients over the same number, meet the equations
    abbrev multipliers_of : Car → List (Kept K) → List Car
    multipliers_of c [] = []
    multipliers_of c (k ∷ ks) = value R C k.point d * K.inv c ∷ multipliers_of c ks

    equations_hold : (c : Car) (ks : List (Kept K)) → Images K A B d ks → Equations K (divided_by K c C) ks (multipliers_of c ks)
    equations_hold c [] h = tt
    equations_hold c (k ∷ ks) h = (
      λ n l. value_divided K c C k.point n ∙ ap (◌* K.inv c) (value_is_multiple k.point k.image h.0 n)
          ∙ ring3 R (λ v u i. v ⊗ u ⊗ i ≗ v ⊗ i ⊗ u) tt (value R C k.point d) (k.image n) (K.inv c),
      equations_hold c ks h.1,
    )

    abbrev solution_of : (k : Kept K) (ks : List (Kept K)) → Unknowns K
    solution_of k ks = record {
      skeleton = divided_by K (value R C k.point d) C;
      multipliers = multipliers_of (value R C k.point d) (k ∷ ks);
    }

    solution_holds : (monomials : List Exponents) → map (λ (t : Term R). t.exponents) C ≡ monomials → (k : Kept K) (ks : List (Kept K))
        → Images K A B d (k ∷ ks)
        → Solution K monomials (k ∷ ks) (solution_of k ks)
    solution_holds monomials e k ks h = record {
      proposed = divided_monomials K _ C ∙ e;
      one_first = K.mul_inv _ (value_top k.point k.image h.0).nonzero;
      holds = equations_hold (value R C k.point d) (k ∷ ks) h;
    }

    -- the points sorted, and the only solution of their equations
    module _ (monomials : List Exponents) (e : map (λ (t : Term R). t.exponents) C ≡ monomials) (points : List (Point R)) (b u : ℕ) (k : Kept K)
        (kept : List (Kept K)) (sorted : Sorted K A B d points b u (k ∷ kept)) (s : Unknowns K) (only : OnlySolution K monomials (k ∷ kept) s) where
      -- makes the divisor that C is, made monic
      pub divisor_is_monic : divisor K s ≡ made_monic K (without_zeros K C)
      divisor_is_monic =
          let images = kept_images K A B d points b u (k ∷ kept) sorted in
          ap (divisor K) (sym (only.1 (solution_of k kept) (solution_holds monomials e k kept images)))
          ∙ monic_of_multiple K (value R C k.point d) (value_top k.point k.image images.0).nonzero C

      pub divisor_divides : DividesBoth K A B (divisor K s)
      divisor_divides = subst (DividesBoth K A B) (sym divisor_is_monic) (monic_divides K C _ both.0, monic_divides K C _ both.1)

      -- DEMAND 3, second half
      pub common_divisor_found : (ceiling n : ℕ) → Steps K A B (divisor K s) n → n ≤ ceiling
          → RuleAnswer K A B monomials points ceiling
          (report 0 (record { d = d; bad = b; unlucky = u; kept = length (k ∷ kept) }) (length (divisor K s)) n) (divisor K s)
      common_divisor_found ceiling n steps l = some_good d b u k kept sorted 0 _ n (divided s only (accepted n steps l divisor_divides))
