-- The rows say what the equations of the rule say: numbers solve them exactly if the unknowns that they stand for meet the equations.
use Rattle.std.specs.Prelude.{◌≡◌, refl, List, [], ◌∷◌, ◌++◌, ℕ, suc, ◌<◌, length}
use Rattle.std.proofs.Common.{sym, ◌∙◌, ap, subst, arith, length-append}
use Rattle.std.proofs.Math.Seq.{append_snoc}
use Rattle.algebra.specs.Field.{Field}
use Rattle.algebra.specs.Four.{Exponents}
use Rattle.algebra.specs.Linear.{SolvesAll}
use Rattle.algebra.specs.Laws.Linear.{solves_append, solves_front, solves_back}
use Rattle.divisor.specs.Rule.{Kept, Equations}
use Rattle.divisor.specs.Equations.Rows.{rows_at, rows_from, kept_rows, all_rows, with_coefficients}
use Rattle.divisor.specs.Equations.RowValue.{multiplier, point_says, say_point}

module _ (K : Field) where
  open K.ring use {Car, 𝟙}

  length_one : (front : List Car) (x : Car) → length (front ++ (x ∷ [])) ≡ suc (length front)
  length_one front x = let e = length-append front (x ∷ []) in omega arith

  multiplier_last : (ms : List Car) → multiplier K ms (length ms) ≡ 𝟙
  multiplier_last [] = refl
  multiplier_last (x ∷ ms) = multiplier_last ms

  multiplier_there : (front : List Car) (x : Car) (back : List Car) → multiplier K (front ++ (x ∷ back)) (length front) ≡ x
  multiplier_there [] x back = refl
  multiplier_there (y ∷ front) x back = multiplier_there front x back

  -- the multiplier that stands behind those in front
  module _ (all front : List Car) (x : Car) (back : List Car) (e : all ≡ front ++ (x ∷ back)) where
    there : multiplier K all (length front) ≡ x
    there = ap (λ (a : List Car). multiplier K a (length front)) e ∙ multiplier_there front x back

    fits : length front < suc (length all)
    fits = let q : length all ≡ length (front ++ (x ∷ back)) = ap length e in let r = length-append front (x ∷ back) in omega arith

  module _ (es : List Exponents) (cs : List Car) (sized : length cs ≡ length es) where
    -- the rows of the point whose multiplier stands in column m, and of the points from there on
    abbrev here : List Car → ℕ → Kept K → List (List Car)
    here all m k = rows_at K es (suc (length all)) m k 0 8

    abbrev from_on : List Car → ℕ → List (Kept K) → List (List Car)
    from_on all m ks = rows_from K es (suc (length all)) m ks

    -- the points after the first, where the multipliers of those before stand in front
    rows_from_say : (all front : List Car) (ks : List (Kept K)) (back : List Car) → length back ≡ length ks → all ≡ front ++ back
        → SolvesAll K (cs ++ all) (from_on all (length front) ks) → Equations K (with_coefficients K es cs) ks back
    rows_from_say all front [] [] l e h = tt
    rows_from_say all front [] (x ∷ back) l e h = absurd (omega arith)
    rows_from_say all front (k ∷ ks) [] l e h = absurd (omega arith)
    rows_from_say all front (k ∷ ks) (x ∷ back) l e h = (
      point_says K es cs all sized (length front) (fits all front x back e) x (there all front x back e) k
          (solves_front K (cs ++ all) (here all (length front) k) (from_on all (suc (length front)) ks) h),
      rows_from_say all (front ++ (x ∷ [])) ks back (omega arith) (e ∙ sym (append_snoc front x back))
          (subst (λ (m : ℕ). SolvesAll K (cs ++ all) (from_on all m ks)) (sym (length_one front x))
          (solves_back K (cs ++ all) (here all (length front) k) (from_on all (suc (length front)) ks) h)),
    )

    say_rows_from : (all front : List Car) (ks : List (Kept K)) (back : List Car) → all ≡ front ++ back
        → Equations K (with_coefficients K es cs) ks back → SolvesAll K (cs ++ all) (from_on all (length front) ks)
    say_rows_from all front [] back e h = tt
    say_rows_from all front (k ∷ ks) [] e h = absurd h
    say_rows_from all front (k ∷ ks) (x ∷ back) e h =
        solves_append K (cs ++ all) (here all (length front) k) (from_on all (suc (length front)) ks)
        (say_point K es cs all sized (length front) (fits all front x back e) x (there all front x back e) k h.0)
        (subst (λ (m : ℕ). SolvesAll K (cs ++ all) (from_on all m ks)) (length_one front x)
        (say_rows_from all (front ++ (x ∷ [])) ks back (e ∙ sym (append_snoc front x back)) h.1))

    -- all equations
    pub rows_say : (ms : List Car) (k : Kept K) (ks : List (Kept K)) → length ms ≡ length ks
        → SolvesAll K (cs ++ ms) (all_rows K es k ks) → Equations K (with_coefficients K es cs) (k ∷ ks) (𝟙 ∷ ms)
    rows_say ms k ks l h =
        let g = subst (λ (n : ℕ). SolvesAll K (cs ++ ms) (kept_rows K es n (k ∷ ks))) (sym l) h in (
          point_says K es cs ms sized (length ms) (omega arith) 𝟙 (multiplier_last ms) k
              (solves_front K (cs ++ ms) (here ms (length ms) k) (from_on ms 0 ks) g),
          rows_from_say ms [] ks ms l refl (solves_back K (cs ++ ms) (here ms (length ms) k) (from_on ms 0 ks) g),
        )

    pub say_rows : (ms : List Car) (k : Kept K) (ks : List (Kept K)) → length ms ≡ length ks
        → Equations K (with_coefficients K es cs) (k ∷ ks) (𝟙 ∷ ms) → SolvesAll K (cs ++ ms) (all_rows K es k ks)
    say_rows ms k ks l h =
        subst (λ (n : ℕ). SolvesAll K (cs ++ ms) (kept_rows K es n (k ∷ ks))) l
        (solves_append K (cs ++ ms) (here ms (length ms) k) (from_on ms 0 ks)
        (say_point K es cs ms sized (length ms) (omega arith) 𝟙 (multiplier_last ms) k h.0) (say_rows_from ms [] ks ms refl h.1))
