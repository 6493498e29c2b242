-- Sorting by size is the sorting of the rule: sizes of 0 are bad points, the least size is that of the kept ones.
use Rattle.std.specs.Prelude.{◌≡◌, ◌⊎◌, Bool, true, List, [], ◌∷◌, eqb, length}
use Rattle.std.proofs.Math.Path.{refl, subst}
use Rattle.std.proofs.Common.{sym, ◌∙◌, ap, eq-eqb, ne_eqb, lt-ltb, le-ltb}
use Rattle.std.proofs.Math.Logic.{inl, inr}
use Rattle.std.proofs.Math.Bool.{false}
use Prim.Native.Nat.{ℕ, suc, ◌+◌, ◌≤◌, ◌<◌}
use Rattle.std.proofs.Math.Decide.{ℕ_discrete, dec_lt}
use native.Mathlib.Omega.{arith}
use Rattle.field.specs.Loops.Fold.{fold}
use Rattle.field.specs.Prime.{Prime}
use Rattle.field.specs.Modulo.{Modulo}
use Rattle.poly.specs.declared.PointImage.{PointImage}
use Rattle.poly.specs.Terms.{Polynomial}
use Rattle.poly.specs.PointValue.{Point}
use Rattle.poly.specs.Coefficients.{series}
use Rattle.poly.specs.PointImage.{Image}
use Rattle.poly.specs.ImageCall.{PointAnswer, bad, good}
use Rattle.divisor.specs.Rule.{Kept, Sorted, AllBad, done, bad as bad_point, unlucky, keep}
use Rattle.divisor.specs.Sorting.Model.{sizes_of, lesser, with_size, alike, kept_of}

-- what the lesser of two sizes is
pub data Lesser (a b : ℕ) : ℕ → Type 0 where
  first : (b ≡ 0) ⊎ ((¬ (a ≡ 0)) × (a ≤ b)) → Lesser a b a
  second : ¬ (b ≡ 0) → (a ≡ 0) ⊎ (b < a) → Lesser a b b

lesser_is : (a b : ℕ) → Lesser a b (lesser a b)
unfolding lesser
lesser_is a b = go (ℕ_discrete b 0) (ℕ_discrete a 0) (dec_lt b a)
  where
    go : Dec (b ≡ 0) → Dec (a ≡ 0) → Dec (b < a) → Lesser a b (lesser a b)
    go (yes e) y z = rw (eq-eqb b 0 e, lesser) (first (inl e))
    go (no n) (yes e) z = rw (ne_eqb b 0 n, lesser) (rw (eq-eqb a 0 e, lesser) (second n (inl e)))
    go (no n) (no m) (yes l) =
        rw (ne_eqb b 0 n, lesser) (rw (ne_eqb a 0 m, lesser) (rw (lt-ltb b a l, lesser) (second n (inr l))))
    go (no n) (no m) (no l) =
        rw (ne_eqb b 0 n, lesser) (rw (ne_eqb a 0 m, lesser) (rw (le-ltb b a (omega arith), lesser) (first (inr (m, omega arith)))))

-- each size is 0 or at least m
abbrev pub AtLeast : ℕ → List ℕ → Type 0
AtLeast m [] = Unit {0}
AtLeast m (s ∷ sizes) = ((s ≡ 0) ⊎ (m ≤ s)) × AtLeast m sizes

abbrev pub AllZero : List ℕ → Type 0
AllZero [] = Unit {0}
AllZero (s ∷ sizes) = (s ≡ 0) × AllZero sizes

-- the least of a and the sizes: 0 if all are, else below none of them and one of them
pub record Least (a : ℕ) (sizes : List ℕ) (m : ℕ) : Type 0 where
  pub below_first : (a ≡ 0) ⊎ (m ≤ a)
  pub below : AtLeast m sizes
  pub zero_first : m ≡ 0 → a ≡ 0
  pub zero : m ≡ 0 → AllZero sizes
  pub reached : (m ≡ a) ⊎ (0 < alike m sizes)

alike_here : (s : ℕ) (sizes : List ℕ) → 0 < alike s (s ∷ sizes)
unfolding alike
alike_here s sizes = rw (eq-eqb s s refl, alike) (omega arith)

alike_later : (m s : ℕ) (sizes : List ℕ) → 0 < alike m sizes → 0 < alike m (s ∷ sizes)
unfolding alike
alike_later m s sizes l =
    elim (ℕ_discrete s m) [ yes e ↦ rw (eq-eqb s m e, alike) (omega arith) | no n ↦ rw (ne_eqb s m n, alike) l ]

-- a size counts at most as often as there are sizes, and so do two different ones together
pub alike_most : (a : ℕ) (l : List ℕ) → alike a l ≤ length l
unfolding alike
alike_most a [] = omega arith
alike_most a (s ∷ l) =
    let h = alike_most a l in
    elim (ℕ_discrete s a) [ yes e ↦ rw (eq-eqb s a e, alike) (omega arith) | no n ↦ rw (ne_eqb s a n, alike) (omega arith) ]

pub alike_two : (a b : ℕ) → ¬ (a ≡ b) → (l : List ℕ) → alike a l + alike b l ≤ length l
unfolding alike
alike_two a b n [] = omega arith
alike_two a b n (s ∷ l) = go (ℕ_discrete s a) (ℕ_discrete s b) (alike_two a b n l)
  where
    go : Dec (s ≡ a) → Dec (s ≡ b) → alike a l + alike b l ≤ length l → alike a (s ∷ l) + alike b (s ∷ l) ≤ suc (length l)
    go (yes d) (yes e) h = absurd (n (sym d ∙ e))
    go (yes d) (no e) h = rw (eq-eqb s a d, alike) (rw (ne_eqb s b e, alike) (omega arith))
    go (no d) (yes e) h = rw (ne_eqb s a d, alike) (rw (eq-eqb s b e, alike) (omega arith))
    go (no d) (no e) h = rw (ne_eqb s a d, alike) (rw (ne_eqb s b e, alike) (omega arith))

-- the least size is the least
pub least_is : (a : ℕ) (sizes : List ℕ) → Least a sizes (fold with_size sizes a)
unfolding fold
least_is a [] =
    record { below_first = inr (omega arith); below = tt; zero_first = λ e. e; zero = λ e. tt; reached = inl refl }
least_is a (s ∷ sizes) = go (lesser a s) (lesser_is a s) (fold with_size sizes (lesser a s)) (least_is (lesser a s) sizes)
  where
    go : (b : ℕ) → Lesser a s b → (m : ℕ) → Least b sizes m → Least a (s ∷ sizes) m
    go b (first h) m l = record {
      below_first = l.below_first;
      below =
          (elim h [ inl e ↦ inl e | inr q ↦ elim l.below_first [ inl e ↦ absurd (q.0 e) | inr k ↦ inr (let c : a ≤ s = q.1 in omega arith) ] ], l.below);
      zero_first = l.zero_first;
      zero = λ e. (elim h [ inl z ↦ z | inr q ↦ absurd (q.0 (l.zero_first e)) ], l.zero e);
      reached = elim l.reached [ inl e ↦ inl e | inr k ↦ inr (alike_later m s sizes k) ];
    }
    go b (second n h) m l = record {
      below_first = elim h [ inl e ↦ inl e | inr k ↦ elim l.below_first [ inl e ↦ absurd (n e) | inr c ↦ inr (omega arith) ] ];
      below = (elim l.below_first [ inl e ↦ absurd (n e) | inr c ↦ inr c ], l.below);
      zero_first = λ e. absurd (n (l.zero_first e));
      zero = λ e. absurd (n (l.zero_first e));
      reached = inr (elim l.reached [ inl e ↦ subst (λ (k : ℕ). 0 < alike k (s ∷ sizes)) (sym e) (alike_here s sizes) | inr k ↦ alike_later m s sizes k ]);
    }

module _ {p : ℕ} (P : Prime p) (A B : Polynomial (Modulo p P)) where
  -- each point with the record of its image
  pub data Looked : List (Point (Modulo p P).ring) → List PointImage → Type 0 where
    nowhere : Looked [] []
    one : {at : Point (Modulo p P).ring} {points : List (Point (Modulo p P).ring)} {r : PointImage} {looks : List PointImage}
        → PointAnswer p P A B at r → Looked points looks → Looked (at ∷ points) (r ∷ looks)

  -- all sizes 0: all points bad
  pub all_bad : (points : List (Point (Modulo p P).ring)) (looks : List PointImage) → Looked points looks → AllZero (sizes_of looks)
      → AllBad (Modulo p P) A B points
  all_bad points looks nowhere h = tt
  all_bad points looks (one (bad x) rest) h = (x, all_bad _ _ rest h.1)
  all_bad points looks (one (good degree cs e i) rest) h = absurd (let z : suc degree ≡ 0 = h.0 in omega arith)

  abbrev Kepts : Type 0
  Kepts = List (Kept (Modulo p P))

  -- a point with its image, if it is kept
  abbrev kept_here : Point (Modulo p P).ring → PointImage → Kept (Modulo p P)
  kept_here at r = record { point = at; image = series p r.coefficients }

  -- one more point, by the tests of its size
  module _ (d : ℕ) (at : Point (Modulo p P).ring) (points : List (Point (Modulo p P).ring)) (r : PointImage) (looks : List PointImage) where
    abbrev SortedBy : Bool → Bool → Type 0
    SortedBy zero_size same_size =
        (u : ℕ) × Sorted (Modulo p P) A B d (at ∷ points)
        (elim zero_size as (λ _. ℕ) [ true ↦ suc (alike 0 (sizes_of looks)) | false ↦ alike 0 (sizes_of looks) ]) u
        (elim same_size as (λ _. Kepts) [ true ↦ kept_here at r ∷ kept_of P (suc d) points looks | false ↦ kept_of P (suc d) points looks ])

    sorted_by : (s : ℕ) → r.size ≡ s → SortedBy (eqb s 0) (eqb s (suc d))
        → (u : ℕ) × Sorted (Modulo p P) A B d (at ∷ points) (alike 0 (sizes_of (r ∷ looks))) u (kept_of P (suc d) (at ∷ points) (r ∷ looks))
    unfolding alike kept_of
    sorted_by s e h = subst (λ (n : ℕ). SortedBy (eqb n 0) (eqb n (suc d))) (sym e) h

  -- the least size is that of the kept points
  pub sorted : (d : ℕ) (points : List (Point (Modulo p P).ring)) (looks : List PointImage) → Looked points looks → AtLeast (suc d) (sizes_of looks)
      → (u : ℕ) × Sorted (Modulo p P) A B d points (alike 0 (sizes_of looks)) u (kept_of P (suc d) points looks)
  sorted d [] [] nowhere h = (unfold alike kept_of in (0, done))
  sorted d [] (r ∷ looks) looked h = elim looked [ ]
  sorted d (at ∷ points) [] looked h = elim looked [ ]
  sorted d (at ∷ points) (r ∷ looks) (one (bad x) rest) h =
      let s = sorted d points looks rest h.1 in
      sorted_by d at points r looks 0 refl
      (rw (ne_eqb 0 (suc d) (λ z. omega arith)) (s.0, bad_point x s.1))
  sorted d (at ∷ points) (r ∷ looks) (one (good degree cs e i) rest) h =
      sorted_by d at points r looks (suc degree) refl
      (rw (ne_eqb (suc degree) 0 (λ z. omega arith)) (go (ℕ_discrete degree d) (sorted d points looks rest h.1) h.0))
    where
      go : Dec (degree ≡ d) → (u : ℕ) × Sorted (Modulo p P) A B d points (alike 0 (sizes_of looks)) u (kept_of P (suc d) points looks)
          → (suc degree ≡ 0) ⊎ (suc d ≤ suc degree) → SortedBy d at points r looks false (eqb (suc degree) (suc d))
      go (yes q) s l = rw (eq-eqb (suc degree) (suc d) (ap suc q))
          (s.0, keep (series p cs) (subst (λ (n : ℕ). Image (Modulo p P) A B at n (series p cs)) q i) s.1)
      go (no q) s l = rw (ne_eqb (suc degree) (suc d) (λ z. q (omega arith)))
          (suc s.0, unlucky degree (series p cs) i (elim l [ inl z ↦ absurd (omega arith) | inr k ↦ omega arith ]) s.1)

  -- as many are kept as have the size
  pub kept_count : (m : ℕ) (points : List (Point (Modulo p P).ring)) (looks : List PointImage) → Looked points looks
      → length (kept_of P m points looks) ≡ alike m (sizes_of looks)
  unfolding alike kept_of
  kept_count m points looks nowhere = refl
  kept_count m (at ∷ points) (r ∷ looks) (one a rest) = elim (ℕ_discrete r.size m) [
    | yes e ↦ rw (eq-eqb r.size m e, alike, kept_of) (ap suc (kept_count m points looks rest))
    | no n ↦ rw (ne_eqb r.size m n, alike, kept_of) (kept_count m points looks rest)
  ]
