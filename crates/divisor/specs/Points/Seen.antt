-- The points one after the other, with the records of their images: what the code has seen is what the rule speaks of.
use Rattle.std.specs.Prelude.{◌≡◌, eqb, length, get_or, take, drop}
use Rattle.std.proofs.Math.Path.{refl, sym, ap}
use Rattle.std.proofs.Common.{◌∙◌, ap₂, subst, length-drop, drop-cons, drop-drop}
use Rattle.std.proofs.Math.Bool.{Bool, true, false}
use mathlib.Core.List.{List, [], ◌∷◌, ◌++◌, map, map-append, append_assoc, append-nil}
use Prim.Native.Nat.{ℕ, zero, suc, ◌+◌, ◌*◌, ◌/◌, ◌≤◌}
use native.Mathlib.Omega.{arith}
use Rattle.field.specs.Prime.{Prime}
use Rattle.field.specs.Modulo.{Modulo}
use Rattle.poly.specs.declared.PointImage.{PointImage}
use Rattle.poly.specs.Terms.{terms_of}
use Rattle.poly.specs.PointValue.{Point}
use Rattle.poly.specs.ImageCall.{point_of}
use Rattle.divisor.specs.Rule.{Kept}
use Rattle.divisor.specs.Candidate.{most_points, point_at, points_of}
use Rattle.divisor.specs.Sorting.Model.{sizes_of, places_before, kept_of}
use Rattle.divisor.specs.Equations.Model.{image_at, kept_numbers, kept_at}
use Rattle.divisor.specs.Points.Model.{look_at, LookReady, Looks, kept_before}
use Rattle.divisor.specs.Sorting.Laws.{Looked, nowhere, one}
use Rattle.divisor.specs.Points.Looking.{look_answers}

-- three numbers of the points are one point
module _ (p : ℕ) (P : Prime p) where
  next_point : (l : List ℕ) → 3 ≤ length l → points_of p P l ≡ point_of p P (take 3 l) ∷ points_of p P (drop 3 l)
  unfolding points_of
  next_point [] h = absurd (omega arith)
  next_point (y ∷ []) h = absurd (omega arith)
  next_point (y ∷ z ∷ []) h = absurd (omega arith)
  next_point (y ∷ z ∷ w ∷ l) h = refl

  pub points_length : (l : List ℕ) → length (points_of p P l) ≡ length l / 3
  unfolding points_of
  points_length [] = refl
  points_length (y ∷ []) = refl
  points_length (y ∷ z ∷ []) = refl
  points_length (y ∷ z ∷ w ∷ l) = let h = points_length l in omega arith

  no_point : (l : List ℕ) → length l ≡ 0 → points_of p P l ≡ []
  unfolding points_of
  no_point [] h = refl
  no_point (y ∷ l) h = absurd (omega arith)

-- the records of the points from i on, n of them
abbrev pub looks_from : ℕ → List ℕ → List ℕ → List ℕ → ℕ → ℕ → List PointImage
looks_from p A B points i zero = []
looks_from p A B points i (suc n) = look_at p A B points i ∷ looks_from p A B points (suc i) n

-- the numbers of the points from i on
abbrev left : List ℕ → ℕ → List ℕ
left points i = drop (3 * i) points

left_length : (points : List ℕ) (i n : ℕ) → length points ≡ 3 * (i + n) → length (left points i) ≡ 3 * n
left_length points i n e = let q = length-drop (3 * i) points in omega arith

left_next : (points : List ℕ) (i : ℕ) → drop 3 (left points i) ≡ left points (suc i)
left_next points i =
    let e : 3 * i + 3 ≡ 3 * suc i = omega arith in drop-drop 3 (3 * i) points ∙ ap (λ (n : ℕ). drop n points) e

points_next : {p : ℕ} (P : Prime p) (points : List ℕ) (i n : ℕ) → length points ≡ 3 * (i + suc n)
    → points_of p P (left points i) ≡ point_of p P (point_at points i) ∷ points_of p P (left points (suc i))
points_next {p} P points i n e =
    next_point p P (left points i) (let q = left_length points i (suc n) e in omega arith)
    ∙ ap (λ (l : List ℕ). point_of p P (point_at points i) ∷ points_of p P l) (left_next points i)

module _ {p : ℕ} {A B points work : List ℕ} (ready : LookReady p A B points work) (P : Prime p) where
  pub seen : (i n : ℕ) → length points ≡ 3 * (i + n)
      → Looked P (terms_of p P A) (terms_of p P B) (points_of p P (left points i)) (looks_from p A B points i n)
  seen i zero e =
      subst (λ (l : List (Point (Modulo p P).ring)). Looked P (terms_of p P A) (terms_of p P B) l [])
      (sym (no_point p P (left points i) (let q = left_length points i 0 e in omega arith))) nowhere
  seen i (suc n) e =
      subst (λ (l : List (Point (Modulo p P).ring)). Looked P (terms_of p P A) (terms_of p P B) l (looks_from p A B points i (suc n)))
      (sym (points_next P points i n e))
      (one (look_answers ready P i) (seen (suc i) n (omega arith)))

module _ {p N : ℕ} {A B points before after sizes : List ℕ} (few : N ≤ most_points) (looks : Looks N p A B points before after sizes) where
  sizes_from : (i n : ℕ) → i + n ≡ N → take n (drop i sizes) ≡ sizes_of (looks_from p A B points i n)
  sizes_from i zero e = refl
  sizes_from i (suc n) e =
      let c = looks.sized.long in
      ap (take (suc n)) (drop-cons sizes i 0 (omega arith)) ∙ ap₂ ◌∷◌ (looks.sized.done i (omega arith)) (sizes_from (suc i) n (omega arith))

  pub sizes_seen : take N sizes ≡ sizes_of (looks_from p A B points 0 N)
  sizes_seen = sizes_from 0 N (omega arith)

  module _ (P : Prime p) (m : ℕ) (whole : length points ≡ 3 * N) where
    abbrev Kepts : Type 0
    Kepts = List (Kept (Modulo p P))

    -- those kept before point i, and of n points from i on
    abbrev so_far : ℕ → Kepts
    so_far i = kept_before P m points sizes after i

    abbrev rest : ℕ → ℕ → Kepts
    rest i n = kept_of P m (points_of p P (left points i)) (looks_from p A B points i n)

    -- one more point, kept or not
    one_more : (i n : ℕ) → i + suc n ≡ N
        → so_far i ++ rest i (suc n) ≡ so_far (suc i) ++ rest (suc i) n
    unfolding places_before kept_of
    one_more i n e =
        ap (λ (l : List (Point (Modulo p P).ring)). so_far i ++ kept_of P m l (looks_from p A B points i (suc n)))
        (points_next P points i n (omega arith))
        ∙ ap (λ (s : ℕ). so_far i ++ by (eqb s m) (look_at p A B points i).coefficients) (sym (looks.sized.done i (omega arith)))
        ∙ ap (λ (l : List ℕ). so_far i ++ by (eqb (get_or sizes i 0) m) l) (sym (looks.images i (omega arith)))
        ∙ go (eqb (get_or sizes i 0) m)
      where
        by : Bool → List ℕ → Kepts
        by b image = elim b as (λ _. Kepts) [ true ↦ kept_numbers p P (point_at points i) image ∷ rest (suc i) n | false ↦ rest (suc i) n ]

        here : List ℕ → Kepts
        here = map (kept_at P points after)

        go : (b : Bool) → so_far i ++ by b (image_at after i)
            ≡ here (places_before m sizes i ++ elim b as (λ _. List ℕ) [ true ↦ i ∷ [] | false ↦ [] ]) ++ rest (suc i) n
        go true =
            sym (append_assoc (so_far i) (here (i ∷ [])) (rest (suc i) n))
            ∙ ap (◌++ rest (suc i) n) (sym (map-append (kept_at P points after) (places_before m sizes i) (i ∷ [])))
        go false = ap (λ (ps : List ℕ). here ps ++ rest (suc i) n) (sym (append-nil (places_before m sizes i)))

    kept_from : (i n : ℕ) → i + n ≡ N → so_far i ++ rest i n ≡ so_far N
    unfolding kept_of
    kept_from i zero e =
        let q : i ≡ N = omega arith in
        ap (λ (l : List (Point (Modulo p P).ring)). so_far i ++ kept_of P m l [])
        (no_point p P (left points i) (let r = left_length points i 0 (omega arith) in omega arith))
        ∙ append-nil (so_far i)
        ∙ ap so_far q
    kept_from i (suc n) e = one_more i n e ∙ kept_from (suc i) n (omega arith)

    pub kept_seen : kept_before P m points sizes after N ≡ kept_of P m (points_of p P points) (looks_from p A B points 0 N)
    unfolding places_before
    kept_seen = sym (kept_from 0 N (omega arith))
