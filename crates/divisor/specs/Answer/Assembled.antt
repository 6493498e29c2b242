-- What the routine finds, put together, meets the promise of the call: from the images looked at, what the equations have for solutions,
-- and the two trial divisions.
use Rattle.std.specs.Prelude.{◌≡◌, length, get_or, take, drop}
use Rattle.std.proofs.Math.Path.{refl, sym, ap}
use Rattle.std.proofs.Common.{◌∙◌, subst, drop-cons, length-take-le}
use mathlib.Core.List.{List, [], ◌∷◌, map}
use Prim.Native.Nat.{ℕ, suc, ◌+◌, ◌-◌, ◌≤◌, ◌<◌}
use native.Mathlib.Omega.{arith}
use Rattle.std.proofs.lemmas.List.{length-map}
use Rattle.algebra.specs.SeriesRing.{S4}
use Rattle.algebra.specs.Four.{Exponents}
use Rattle.algebra.specs.Monomial.{polynomial}
use Rattle.algebra.specs.Linear as linear
use Rattle.field.specs.Moduli.{Listed}
use Rattle.field.specs.Modulus.Laws.{listed_below}
use Rattle.field.specs.Prime.{Prime}
use Rattle.field.specs.Fp.{Fp, el}
use Rattle.field.specs.Modulo.{Modulo}
use Rattle.field.specs.Numbers.{NO_GOOD_POINT, NO_SOLUTION, SEVERAL_SOLUTIONS, DOES_NOT_DIVIDE, CEILING_REACHED}
use Rattle.field.specs.Refusal.{Passes}
use Rattle.poly.specs.Keys.{exponents}
use Rattle.poly.specs.Terms.{Polynomial, terms_of, numbers_of, poly, coefficient_limit}
use Rattle.poly.specs.Divides.{Divides}
use Rattle.poly.specs.PointImage.{Image}
use Rattle.field.specs.Lent.{written}
use Rattle.poly.specs.Room.{cleared}
use Rattle.poly.specs.Image.Laws.{image_small}
use Rattle.divisor.specs.Rule.{Counts, none_good, report, Kept, Sorted, Unknowns, Solution, OnlySolution, without_zeros, made_monic, divisor}
use Rattle.divisor.specs.Rule.{Steps, cut_off, rejected, accepted, Verdict, unsolvable, several, divided, all_bad, some_good}
use Rattle.divisor.specs.Candidate.{Call, table, prime, Numbers, A, B, monomials, lent_points, Result, Candidate, answered}
use Rattle.divisor.specs.Table.Meaning.{entries}
use Rattle.divisor.specs.Equations.Rows.{all_rows, with_coefficients, unknowns_of}
use Rattle.divisor.specs.Sorting.Model.{sizes_of, alike, kept_of}
use Rattle.divisor.specs.Monic.Model.{monic_terms}
use Rattle.divisor.specs.Verdict.Model.{Both}
use Rattle.divisor.specs.Answer.Determined.{counts_add_up}
use Rattle.divisor.specs.Demand.Degree.{kept_images}
use Rattle.divisor.specs.Equations.Solutions.{no_solution, only_solution, several_solutions}
use Rattle.divisor.specs.Points.Seen.{points_length}
use Rattle.divisor.specs.Checks.Passed.{point_count, looks_of, first_bounded, second_bounded, skeleton_falls, looked}
use Rattle.divisor.specs.Sorting.Laws.{AllZero, AtLeast, sorted, kept_count}
use Rattle.divisor.specs.Sorting.Laws as sorting
use Rattle.divisor.specs.Monic.Terms.{AllBelow, skeleton_of, divisor_numbers}
use Rattle.divisor.specs.Verdict.Output.{length_numbers}
use Rattle.divisor.specs.Monic.List.{GoodList, good_list}

-- the first of the entries are the coefficients
module _ (p : ℕ) (P : Prime p) where
  coefficients_first : (es : List Exponents) (values : List ℕ) (i m : ℕ) → i + length es ≤ length values
      → with_coefficients (Modulo p P) es (entries p values i (length es + m))
      ≡ with_coefficients (Modulo p P) es (map (el p) (take (length es) (drop i values)))
  unfolding entries
  coefficients_first [] values i m l = refl
  coefficients_first (e ∷ es) values i m l =
      let r : suc (length es) + m ≡ suc (length es + m) = omega arith in
      ap (λ (n : ℕ). with_coefficients (Modulo p P) (e ∷ es) (entries p values i n)) r
      ∙ ap (record { exponents = e; coefficient = el p (get_or values i 0) } ∷◌) (coefficients_first es values (suc i) m (omega arith))
      ∙ sym (ap (λ (v : List ℕ). with_coefficients (Modulo p P) (e ∷ es) (map (el p) (take (suc (length es)) v))) (drop-cons values i 0 (omega arith)))

module _ (c : Call) (pass : Passes (table c)) (listed : Listed c.modulus) where
  abbrev p : ℕ
  p = c.modulus

  abbrev P : Prime c.modulus
  P = prime c listed

  -- all points are bad
  pub answer_all_bad : AllZero (sizes_of (looks_of c))
      → Candidate c (record { found = report NO_GOOD_POINT (none_good (point_count c)) 0 0; output = c.output; work = cleared c.work })
  answer_all_bad h =
      subst (λ (n : ℕ). Candidate c (record { found = report NO_GOOD_POINT (none_good n) 0 0; output = c.output; work = cleared c.work }))
      (points_length p P c.points)
      (answered pass listed _ [] (all_bad (sorting.all_bad P (A c listed) (B c listed) (lent_points c listed) (looks_of c) (looked c pass listed) h)))

  module _ (d : ℕ) (least : AtLeast (suc d) (sizes_of (looks_of c))) (k : Kept (Numbers c listed)) (ks : List (Kept (Numbers c listed)))
      (kept : kept_of (prime c listed) (suc d) (lent_points c listed) (looks_of c) ≡ k ∷ ks) where
    abbrev pub bad_points : ℕ
    bad_points = alike 0 (sizes_of (looks_of c))

    abbrev pub kept_points : ℕ
    kept_points = alike (suc d) (sizes_of (looks_of c))

    some : (u : ℕ) × Sorted (Numbers c listed) (A c listed) (B c listed) d (lent_points c listed) bad_points u (k ∷ ks)
    some = let s = sorted P (A c listed) (B c listed) d (lent_points c listed) (looks_of c) (looked c pass listed) least in
        (s.0, subst (Sorted (Numbers c listed) (A c listed) (B c listed) d (lent_points c listed) bad_points s.0) kept s.1)

    count_kept : length (k ∷ ks) ≡ kept_points
    count_kept =
        ap length (sym kept) ∙ kept_count P (A c listed) (B c listed) (suc d) (lent_points c listed) (looks_of c) (looked c pass listed)

    count_unlucky : some.0 ≡ point_count c - bad_points - kept_points
    count_unlucky =
        let e = counts_add_up (Numbers c listed) (A c listed) (B c listed) d (lent_points c listed) bad_points some.0 (k ∷ ks) some.1 in
        let n = points_length p P c.points in
        let m = count_kept in
        omega arith

    -- what is counted, where so many points are unlucky and kept
    abbrev pub counted : ℕ → ℕ → Counts
    counted u n = record { d = d; bad = bad_points; unlucky = u; kept = n }

    -- the record and the rooms of a verdict
    abbrev pub result : ℕ → List ℕ → ℕ → Result
    result number terms steps = record {
      found = report number (counted (point_count c - bad_points - kept_points) kept_points) (length terms) steps;
      output = written terms c.output;
      work = cleared c.work;
    }

    answer_verdict : (number : ℕ) (G : Polynomial (Numbers c listed)) (steps : ℕ)
        → Verdict (Numbers c listed) (A c listed) (B c listed) (monomials c listed) (k ∷ ks) c.ceiling number G steps
        → Candidate c (result number (numbers_of p P G) steps)
    answer_verdict number G steps v = subst (Candidate c)
        (λ i. record {
          found = report number (counted (count_unlucky i) (count_kept i)) (sym (length_numbers p P G) i) steps;
          output = written (numbers_of p P G) c.output;
          work = cleared c.work;
        })
        (answered pass listed _ G (some_good d bad_points some.0 k ks some.1 number G steps v))

    -- the image at the first kept point has 1 beside x^d
    image : Image (Numbers c listed) (A c listed) (B c listed) k.point d k.image
    image = (kept_images (Numbers c listed) (A c listed) (B c listed) d (lent_points c listed) bad_points some.0 (k ∷ ks) some.1).0

    degree_small : d < 8
    degree_small =
        image_small (Numbers c listed) (A c listed) (B c listed) k.point d k.image (first_bounded c pass listed) (second_bounded c pass listed) image

    -- as many unknowns as the skeleton has keys and there are kept points after the first
    abbrev pub unknowns : ℕ
    unknowns = length c.skeleton + length ks

    abbrev pub equations : List (List (Fp c.modulus))
    equations = all_rows (Numbers c listed) (monomials c listed) k ks

    length_monomials : length (monomials c listed) ≡ length c.skeleton
    length_monomials = length-map c.skeleton exponents

    pub answer_none : linear.NoSolution (Numbers c listed) unknowns equations → Candidate c (result NO_SOLUTION [] 0)
    answer_none h = answer_verdict NO_SOLUTION [] 0 (unsolvable (no_solution (Numbers c listed) (monomials c listed) k ks
        (subst (λ (n : ℕ). linear.NoSolution (Numbers c listed) (n + length ks) equations) (sym length_monomials) h)))

    pub answer_several : (v w : List (Fp c.modulus)) → linear.DifferentSolutions (Numbers c listed) unknowns equations v w
        → Candidate c (result SEVERAL_SOLUTIONS [] 0)
    answer_several v w h =
        answer_verdict SEVERAL_SOLUTIONS [] 0 (several (several_solutions (Numbers c listed) (monomials c listed) k ks v w
        (subst (λ (n : ℕ). linear.DifferentSolutions (Numbers c listed) (n + length ks) equations v w) (sym length_monomials) h)))

    -- the values of the only solution, of which the first are the coefficients of the skeleton
    module _ (values : List ℕ)
        (solves : linear.OnlySolution (Numbers c listed) unknowns equations (entries c.modulus values 0 unknowns))
        (long : length c.skeleton ≤ length values) (below : AllBelow c.modulus (take (length c.skeleton) values)) where
      abbrev cs : List ℕ
      cs = take (length c.skeleton) values

      abbrev found : Unknowns (Numbers c listed)
      found = unknowns_of (Numbers c listed) (monomials c listed) (entries p values 0 unknowns)

      only : OnlySolution (Numbers c listed) (monomials c listed) (k ∷ ks) found
      only = only_solution (Numbers c listed) (monomials c listed) k ks (entries p values 0 unknowns)
          (subst (λ (n : ℕ). linear.OnlySolution (Numbers c listed) (n + length ks) equations (entries p values 0 unknowns)) (sym length_monomials) solves)

      -- the skeleton polynomial of the solution
      same_skeleton : found.skeleton ≡ skeleton_of p P c.skeleton cs
      same_skeleton =
          ap (λ (n : ℕ). with_coefficients (Numbers c listed) (monomials c listed) (entries p values 0 (n + length ks))) (sym length_monomials)
          ∙ coefficients_first p P (monomials c listed) values 0 (length ks) (let e = length_monomials in omega arith)
          ∙ ap (λ (n : ℕ). with_coefficients (Numbers c listed) (monomials c listed) (map (el p) (take n values))) length_monomials

      sized : length cs ≡ length c.skeleton
      sized = length-take-le (length c.skeleton) values long

      pub small : p < coefficient_limit
      small = let b = listed_below listed in omega arith

      pub list : GoodList p P small c.skeleton cs
      list = good_list p P small c.skeleton cs sized below (skeleton_falls c pass) ks k found.multipliers
          (subst (Solution (Numbers c listed) (monomials c listed) (k ∷ ks))
          (λ i. record { skeleton = same_skeleton i; multipliers = found.multipliers }) only.0) d degree_small image.monic.leads

      -- the divisor is that of the skeleton polynomial, its polynomial that of the list, and its numbers are the list
      divisor_is : divisor (Numbers c listed) found ≡ made_monic (Numbers c listed) (without_zeros (Numbers c listed) (skeleton_of p P c.skeleton cs))
      divisor_is =
          ap (λ (f : Polynomial (Numbers c listed)). made_monic (Numbers c listed) (without_zeros (Numbers c listed) f)) same_skeleton

      of_list : polynomial (Numbers c listed).ring (divisor (Numbers c listed) found) ≡ poly p P (monic_terms p c.skeleton cs)
      of_list = ap (polynomial (Numbers c listed).ring) (divisor_is ∙ sym list.reads)

      of_numbers : numbers_of p P (divisor (Numbers c listed) found) ≡ monic_terms p c.skeleton cs
      of_numbers = ap (numbers_of p P) divisor_is ∙ divisor_numbers p P c.skeleton cs sized below

      abbrev DividesBothLists : (S4 (Numbers c listed).ring).Car → Type 0
      DividesBothLists g = Divides (Numbers c listed) g (poly p P c.first_list) × Divides (Numbers c listed) g (poly p P c.second_list)

      -- the divisions by the list take as many steps as those by the divisor
      module _ (n : ℕ) (takes : Steps (Numbers c listed) (A c listed) (B c listed) (terms_of c.modulus (prime c listed) (monic_terms c.modulus
          c.skeleton cs)) n) where
        divisor_takes : Steps (Numbers c listed) (A c listed) (B c listed) (divisor (Numbers c listed) found) n
        divisor_takes =
            subst (λ (G : Polynomial (Numbers c listed)). Steps (Numbers c listed) (A c listed) (B c listed) G n) (sym (divisor_is ∙ sym list.reads)) takes

        pub answer_cut : c.ceiling < n → Candidate c (result CEILING_REACHED [] c.ceiling)
        answer_cut l = answer_verdict CEILING_REACHED [] c.ceiling (divided found only (cut_off n divisor_takes l))

        pub answer_rejected : n ≤ c.ceiling → ¬ Both p P c.first_list c.second_list (monic_terms p c.skeleton cs)
            → Candidate c (result DOES_NOT_DIVIDE [] n)
        answer_rejected l not_both = answer_verdict DOES_NOT_DIVIDE [] n
            (divided found only (rejected n divisor_takes l (λ both. not_both (subst DividesBothLists of_list both))))

        pub answer_accepted : n ≤ c.ceiling → Both p P c.first_list c.second_list (monic_terms p c.skeleton cs)
            → Candidate c (result 0 (monic_terms p c.skeleton cs) n)
        answer_accepted l both =
            subst (λ (ts : List ℕ). Candidate c (result 0 ts n)) of_numbers
            (answer_verdict 0 (divisor (Numbers c listed) found) n
            (divided found only (accepted n divisor_takes l (subst DividesBothLists (sym of_list) both))))
