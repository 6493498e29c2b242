-- A row at numbers: it holds where its equation does, and so the rows of a point say the equations of that point.
use Rattle.std.specs.Prelude.{◌≡◌, refl, ℕ, zero, suc, ◌+◌ as ◌+ₙ◌, ◌<◌, length, replicate}
use Rattle.std.proofs.Math.Path.{sym, ap₂}
use Rattle.std.proofs.Common.{◌∙◌, ap, subst, arith}
use mathlib.Core.List.{List, [], ◌∷◌, ◌++◌, map}
use Rattle.algebra.specs.Ring.{pow}
use Rattle.algebra.specs.Field.{Field}
use Rattle.algebra.specs.Mono.{mono}
use Rattle.algebra.specs.Four.{Exponents}
use Rattle.algebra.specs.Linear.{eval, SolvesAll}
use Rattle.algebra.specs.Laws.Ring.{zero_add, zero_mul}
use Rattle.algebra.specs.Laws.Solver.{◌⊕◌, ◌⊗◌, ◌⊖◌, ⊝, ◌≗◌, k1, ring2, ring3, ring4}
use Rattle.algebra.specs.Laws.Mono.{mono_times}
use Rattle.poly.specs.PointValue.{Point, number_at, value}
use Rattle.divisor.specs.Rule.{Kept}
use Rattle.divisor.specs.Equations.Rows.{monomial_at, only_at, row, rows_at, with_coefficients}

module _ (K : Field) where
  open K use {ring as R}
  open R use {Car, 𝟘, 𝟙, add as ◌+◌, mul as ◌*◌, neg}

  infixl 60 ◌+◌
  infixl 70 ◌*◌
  -- a row at numbers: the part of the monomials is the value of the skeleton polynomial, and the rest follows
  term_at : (at : Point R) (i : ℕ) (e : Exponents) (c : Car)
      → monomial_at K at i e * c ≡ mono R e.x (number_at R at (record { exponents = e; coefficient = c })) i
  term_at at i e c =
      sym (mono_times R e.x (number_at R at (record { exponents = e; coefficient = 𝟙 })) c i)
      ∙ ap (λ (u : Car). mono R e.x u i)
      (ring4 R (λ c y z w. k1 ⊗ y ⊗ z ⊗ w ⊗ c ≗ c ⊗ y ⊗ z ⊗ w) tt c (pow R at.y e.y) (pow R at.z e.z) (pow R at.w e.w))

  eval_monomials : (at : Point R) (i : ℕ) (es : List Exponents) (cs r v : List Car) → length cs ≡ length es
      → eval K (map (monomial_at K at i) es ++ r) (cs ++ v) ≡ value R (with_coefficients K es cs) at i + eval K r v
  unfolding value
  eval_monomials at i [] [] r v l = sym (zero_add R _)
  eval_monomials at i [] (c ∷ cs) r v l = absurd (omega arith)
  eval_monomials at i (e ∷ es) [] r v l = absurd (omega arith)
  eval_monomials at i (e ∷ es) (c ∷ cs) r v l =
      ap₂ ◌+◌ (term_at at i e c) (eval_monomials at i es cs r v (omega arith)) ∙ sym (R.add_assoc _ _ _)

  -- the place of a multiplier: the one at m, or the last, which is 1
  abbrev pub multiplier : List Car → ℕ → Car
  multiplier [] zero = 𝟙
  multiplier [] (suc m) = 𝟙
  multiplier (x ∷ xs) zero = x
  multiplier (x ∷ xs) (suc m) = multiplier xs m

  eval_zeros : (ms : List Car) → eval K (replicate (suc (length ms)) 𝟘) ms ≡ 𝟘
  eval_zeros [] = refl
  eval_zeros (x ∷ ms) = ap₂ ◌+◌ (zero_mul R x) (eval_zeros ms) ∙ R.add_zero 𝟘

  eval_only_at : (ms : List Car) (m : ℕ) (u : Car) → m < suc (length ms) → eval K (only_at K (suc (length ms)) m u) ms ≡ u * multiplier ms m
  eval_only_at [] zero u l = sym (R.mul_one u)
  eval_only_at [] (suc m) u l = absurd (omega arith)
  eval_only_at (x ∷ ms) zero u l = ap (u * x +◌) (eval_zeros ms) ∙ R.add_zero _
  eval_only_at (x ∷ ms) (suc m) u l = ap₂ ◌+◌ (zero_mul R x) (eval_only_at ms m u (omega arith)) ∙ zero_add R _

  -- a row holds where the equation does
  cancelled : (a u m : Car) → a + neg u * m ≡ 𝟘 → a ≡ m * u
  cancelled a u m h = ring3 R (λ a u m. a ≗ (a ⊕ ⊝ u ⊗ m) ⊕ m ⊗ u) tt a u m ∙ ap (◌+ m * u) h ∙ zero_add R _

  opposed : (a u m : Car) → a ≡ m * u → a + neg u * m ≡ 𝟘
  opposed a u m h = ap (◌+ neg u * m) h ∙ ring2 R (λ u m. m ⊗ u ⊕ ⊝ u ⊗ m ≗ u ⊖ u) tt u m ∙ R.add_neg u

  module _ (es : List Exponents) (cs ms : List Car) (sized : length cs ≡ length es) where
    row_value : (m : ℕ) → m < suc (length ms) → (k : Kept K) (i : ℕ)
        → eval K (row K es (suc (length ms)) m k i) (cs ++ ms) ≡ value R (with_coefficients K es cs) k.point i + neg (k.image i) * multiplier ms m
    row_value m l k i = eval_monomials k.point i es cs (only_at K (suc (length ms)) m (neg (k.image i))) ms sized
        ∙ ap (value R (with_coefficients K es cs) k.point i +◌) (eval_only_at ms m (neg (k.image i)) l)

    -- the point whose multiplier x stands in column m
    module _ (m : ℕ) (fits : m < suc (length ms)) (x : Car) (there : multiplier ms m ≡ x) (k : Kept K) where
      abbrev pub Holds : ℕ → Type 0
      Holds i = value R (with_coefficients K es cs) k.point i ≡ x * k.image i

      row_says : (i : ℕ) → eval K (row K es (suc (length ms)) m k i) (cs ++ ms) ≡ 𝟘 → Holds i
      row_says i h = cancelled _ (k.image i) (multiplier ms m) (sym (row_value m fits k i) ∙ h) ∙ ap (◌* k.image i) there

      say_row : (i : ℕ) → Holds i → eval K (row K es (suc (length ms)) m k i) (cs ++ ms) ≡ 𝟘
      say_row i h = row_value m fits k i ∙ opposed _ (k.image i) (multiplier ms m) (h ∙ ap (◌* k.image i) (sym there))

      -- from one power on
      rows_at_say : (i j : ℕ) → SolvesAll K (cs ++ ms) (rows_at K es (suc (length ms)) m k i j) → (a b : ℕ) → b < j → a ≡ i +ₙ b → Holds a
      rows_at_say i zero h a b lb e = absurd (omega arith)
      rows_at_say i (suc j) h a zero lb e = let q : i ≡ a = omega arith in subst Holds q (row_says i h.0)
      rows_at_say i (suc j) h a (suc b) lb e = rows_at_say (suc i) j h.1 a b (omega arith) (omega arith)

      say_rows_at : (i j : ℕ) → ((a b : ℕ) → b < j → a ≡ i +ₙ b → Holds a) → SolvesAll K (cs ++ ms) (rows_at K es (suc (length ms)) m k i j)
      say_rows_at i zero h = tt
      say_rows_at i (suc j) h = (
        say_row i (h i 0 (omega arith) (omega arith)),
        say_rows_at (suc i) j (λ a b lb e. h a (suc b) (omega arith) (omega arith)),
      )

      pub point_says : SolvesAll K (cs ++ ms) (rows_at K es (suc (length ms)) m k 0 8) → (i : ℕ) → i < 8 → Holds i
      point_says h i l = rows_at_say 0 8 h i i l (omega arith)

      pub say_point : ((i : ℕ) → i < 8 → Holds i) → SolvesAll K (cs ++ ms) (rows_at K es (suc (length ms)) m k 0 8)
      say_point h = say_rows_at 0 8 (λ a b l e. h a (omega arith))
