-- The numbers that solve the rows and the unknowns that solve the equations are each other's: so none, one and several agree.
use Rattle.std.specs.Prelude.{◌≡◌, refl, List, [], ◌∷◌, ◌++◌, map, ℕ, suc, ◌+◌ as ◌+ₙ◌, length}
use Rattle.std.proofs.Common.{sym, ◌∙◌, ap, ap₂, subst, append-nil, arith, length-append}
use Rattle.algebra.specs.Field.{Field}
use Rattle.algebra.specs.Four.{Exponents}
use Rattle.algebra.specs.Monomial.{Term}
use Rattle.algebra.specs.Linear.{SolvesAll}
use Rattle.algebra.specs.Linear as linear
use Rattle.poly.specs.Terms.{Polynomial}
use Rattle.divisor.specs.Rule.{Kept, Unknowns, First, Equations, Solution, NoSolution, OnlySolution, SeveralSolutions}
use Rattle.divisor.specs.Equations.Rows.{all_rows, with_coefficients, behind, unknowns_of, after_first, vector_of}
use Rattle.divisor.specs.Equations.Laws.{rows_say, say_rows}

module _ (K : Field) where
  open K use {ring as R}
  open R use {Car, 𝟙}

  abbrev coefficients : Polynomial K → List Car
  coefficients f = map (λ (t : Term R). t.coefficient) f

  abbrev monomials_of : Polynomial K → List Exponents
  monomials_of f = map (λ (t : Term R). t.exponents) f

  -- numbers in two parts: as many as there are monomials, and those behind
  record Parts (es : List Exponents) (n : ℕ) (v : List Car) : Type 0 where
    cs : List Car
    ms : List Car
    parts : v ≡ cs ++ ms
    sized : length cs ≡ length es
    left : length ms ≡ n
    same_skeleton : with_coefficients K es v ≡ with_coefficients K es cs
    same_behind : behind K es v ≡ ms

  split : (es : List Exponents) (n : ℕ) (v : List Car) → length v ≡ length es +ₙ n → Parts es n v
  split [] n v l = record { cs = []; ms = v; parts = refl; sized = refl; left = omega arith; same_skeleton = refl; same_behind = refl }
  split (e ∷ es) n [] l = absurd (omega arith)
  split (e ∷ es) n (c ∷ v) l =
      let s = split es n v (omega arith) in
      record {
        cs = c ∷ s.cs;
        ms = s.ms;
        parts = ap (c ∷◌) s.parts;
        sized = ap suc s.sized;
        left = s.left;
        same_skeleton = ap (record { exponents = e; coefficient = c } ∷◌) s.same_skeleton;
        same_behind = s.same_behind;
      }

  proposed_with : (es : List Exponents) (cs : List Car) → monomials_of (with_coefficients K es cs) ≡ es
  proposed_with [] cs = refl
  proposed_with (e ∷ es) [] = ap (e ∷◌) (proposed_with es [])
  proposed_with (e ∷ es) (c ∷ cs) = ap (e ∷◌) (proposed_with es cs)

  coefficients_with : (es : List Exponents) (cs : List Car) → length cs ≡ length es → coefficients (with_coefficients K es cs) ≡ cs
  coefficients_with [] [] l = refl
  coefficients_with [] (c ∷ cs) l = absurd (omega arith)
  coefficients_with (e ∷ es) [] l = absurd (omega arith)
  coefficients_with (e ∷ es) (c ∷ cs) l = ap (c ∷◌) (coefficients_with es cs (omega arith))

  with_own : (f : Polynomial K) (ms : List Car) → with_coefficients K (monomials_of f) (coefficients f ++ ms) ≡ f
  with_own [] ms = refl
  with_own (t ∷ ts) ms = ap (t ∷◌) (with_own ts ms)

  behind_own : (f : Polynomial K) (ms : List Car) → behind K (monomials_of f) (coefficients f ++ ms) ≡ ms
  behind_own [] ms = refl
  behind_own (t ∷ ts) ms = behind_own ts ms

  length_own : (f : Polynomial K) → length (coefficients f) ≡ length (monomials_of f)
  length_own [] = refl
  length_own (t ∷ ts) = ap suc (length_own ts)

  with_coefficients_own : (f : Polynomial K) → with_coefficients K (monomials_of f) (coefficients f) ≡ f
  with_coefficients_own f = ap (with_coefficients K (monomials_of f)) (sym (append-nil (coefficients f))) ∙ with_own f []

  first_and_after : (ms : List Car) → First K 𝟙 ms → ms ≡ 𝟙 ∷ after_first K ms
  first_and_after [] h = absurd h
  first_and_after (m ∷ ms) h = ap (◌∷ ms) h

  equations_length : (f : Polynomial K) (ks : List (Kept K)) (ms : List Car) → Equations K f ks ms → length ms ≡ length ks
  equations_length f [] [] h = refl
  equations_length f [] (m ∷ ms) h = absurd h
  equations_length f (k ∷ ks) [] h = absurd h
  equations_length f (k ∷ ks) (m ∷ ms) h = ap suc (equations_length f ks ms h.1)

  module _ (es : List Exponents) (k : Kept K) (ks : List (Kept K)) where
    -- as many unknowns as there are monomials and kept points after the first
    abbrev SolvesRows : List Car → Type 0
    SolvesRows = linear.Solution K (length es +ₙ length ks) (all_rows K es k ks)

    solution_of_rows : (v : List Car) → SolvesRows v → Solution K es (k ∷ ks) (unknowns_of K es v)
    solution_of_rows v h =
        let s = split es (length ks) v h.unknowns in
        record {
          proposed = proposed_with es v;
          one_first = refl;
          holds = subst (λ (f : Polynomial K). Equations K f (k ∷ ks) (𝟙 ∷ behind K es v)) (sym s.same_skeleton)
              (subst (λ (ms : List Car). Equations K (with_coefficients K es s.cs) (k ∷ ks) (𝟙 ∷ ms)) (sym s.same_behind)
              (rows_say K es s.cs s.sized s.ms k ks s.left (subst (λ (w : List Car). SolvesAll K w (all_rows K es k ks)) s.parts h.solves)));
        }

    rows_of_solution : (s : Unknowns K) → Solution K es (k ∷ ks) s → SolvesRows (vector_of K s)
    rows_of_solution s h =
        let cs = coefficients s.skeleton in
        let ms = after_first K s.multipliers in
        let own : with_coefficients K es cs ≡ s.skeleton =
        subst (λ (es : List Exponents). with_coefficients K es cs ≡ s.skeleton) h.proposed (with_coefficients_own s.skeleton) in
        let holds = subst (Equations K s.skeleton (k ∷ ks)) (first_and_after s.multipliers h.one_first) h.holds in
        let left : length ms ≡ length ks = omega (arith, equations_length s.skeleton (k ∷ ks) (𝟙 ∷ ms) holds) in
        let sized = length_own s.skeleton ∙ ap length h.proposed in
        record {
          unknowns = length-append cs ms ∙ ap₂ ◌+ₙ◌ sized left;
          solves = say_rows K es cs sized ms k ks left (subst (λ (f : Polynomial K). Equations K f (k ∷ ks) (𝟙 ∷ ms)) (sym own) holds);
        }

    unknowns_of_vector : (s : Unknowns K) → Solution K es (k ∷ ks) s → unknowns_of K es (vector_of K s) ≡ s
    unknowns_of_vector s h =
        let ms = after_first K s.multipliers in
        let own : unknowns_of K es (vector_of K s) ≡ record { skeleton = s.skeleton; multipliers = 𝟙 ∷ ms } =
        subst (λ (es : List Exponents). unknowns_of K es (vector_of K s) ≡ record { skeleton = s.skeleton; multipliers = 𝟙 ∷ ms }) h.proposed
        (λ i. record { skeleton = with_own s.skeleton ms i; multipliers = 𝟙 ∷ behind_own s.skeleton ms i }) in
        own ∙ (λ i. record { skeleton = s.skeleton; multipliers = sym (first_and_after s.multipliers h.one_first) i })

    vector_of_unknowns : (v : List Car) → SolvesRows v → vector_of K (unknowns_of K es v) ≡ v
    vector_of_unknowns v h =
        let s = split es (length ks) v h.unknowns in
        ap₂ (λ (f : Polynomial K) (ms : List Car). coefficients f ++ ms) s.same_skeleton s.same_behind
        ∙ ap (◌++ s.ms) (coefficients_with es s.cs s.sized) ∙ sym s.parts

    -- none, one and several agree
    pub no_solution : linear.NoSolution K (length es +ₙ length ks) (all_rows K es k ks) → NoSolution K es (k ∷ ks)
    no_solution none s h = none (vector_of K s) (rows_of_solution s h)

    pub only_solution : (v : List Car) → linear.OnlySolution K (length es +ₙ length ks) (all_rows K es k ks) v → OnlySolution K es (k ∷ ks) (unknowns_of K es v)
    only_solution v only = (
      solution_of_rows v only.0,
      λ t h. sym (unknowns_of_vector t h) ∙ ap (unknowns_of K es) (only.1 (vector_of K t) (rows_of_solution t h)),
    )

    pub several_solutions : (v w : List Car) → linear.DifferentSolutions K (length es +ₙ length ks) (all_rows K es k ks) v w → SeveralSolutions K es (k ∷ ks)
    several_solutions v w h = (
      unknowns_of K es v,
      unknowns_of K es w,
      solution_of_rows v h.0,
      solution_of_rows w h.1,
      λ e. h.2 (sym (vector_of_unknowns v h.0) ∙ ap (vector_of K) e ∙ vector_of_unknowns w h.1),
    )
