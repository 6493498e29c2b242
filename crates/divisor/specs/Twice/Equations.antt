-- A point may occur twice: it then adds no knowledge and does no harm. A kept point that is kept once more, at any place behind, changes nothing in what
-- the equations settle.
use Rattle.std.specs.Prelude.{◌≡◌, refl, ◌↔◌, List, [], ◌∷◌, ℕ, suc, ◌<◌, length}
use Rattle.std.proofs.Common.{sym, ap, ◌∙◌, subst}
use Rattle.algebra.specs.Field.{Field}
use Rattle.algebra.specs.Four.{Exponents}
use Rattle.poly.specs.Terms.{Polynomial}
use Rattle.poly.specs.PointValue.{value}
use Rattle.divisor.specs.Rule.{Kept, Unknowns, First, Equations, Solution, OnlySolution, divisor, Tried, Verdict, unsolvable, several, divided}

-- ys is xs with x once more, at some place
pub data Inserted {X : Type 0} (x : X) : List X → List X → Type 0 where
  here : {xs : List X} → Inserted x xs (x ∷ xs)
  there : {y : X} {xs ys : List X} → Inserted x xs ys → Inserted x (y ∷ xs) (y ∷ ys)

-- ys is xs with x, which xs has, once more behind it
pub data Again {X : Type 0} (x : X) : List X → List X → Type 0 where
  behind : {xs ys : List X} → Inserted x xs ys → Again x (x ∷ xs) (x ∷ ys)
  later : {y : X} {xs ys : List X} → Again x xs ys → Again x (y ∷ xs) (y ∷ ys)

inserted_length : {X : Type 0} {x : X} {xs ys : List X} → Inserted x xs ys → length ys ≡ suc (length xs)
inserted_length here = refl
inserted_length (there a) = ap suc (inserted_length a)

pub again_length : {X : Type 0} {x : X} {xs ys : List X} → Again x xs ys → length ys ≡ suc (length xs)
again_length (behind a) = ap suc (inserted_length a)
again_length (later b) = ap suc (again_length b)

module _ (K : Field) where
  open K.ring use {Car, 𝟙, mul as ◌*◌, mul_one}

  infixl 70 ◌*◌
  -- the multipliers with that of the point once more, and without it
  abbrev put : {k : Kept K} {ks ls : List (Kept K)} → Inserted k ks ls → Car → List Car → List Car
  put here m ms = m ∷ ms
  put (there a) m [] = []
  put (there a) m (n ∷ ms) = n ∷ put a m ms

  abbrev take_out : {k : Kept K} {ks ls : List (Kept K)} → Inserted k ks ls → List Car → List Car
  take_out here [] = []
  take_out here (m ∷ ms) = ms
  take_out (there a) [] = []
  take_out (there a) (n ∷ ms) = n ∷ take_out a ms

  abbrev more : {k : Kept K} {ks ls : List (Kept K)} → Again k ks ls → List Car → List Car
  more (behind a) [] = []
  more (behind a) (m ∷ ms) = m ∷ put a m ms
  more (later b) [] = []
  more (later b) (m ∷ ms) = m ∷ more b ms

  abbrev less : {k : Kept K} {ks ls : List (Kept K)} → Again k ks ls → List Car → List Car
  less (behind a) [] = []
  less (behind a) (m ∷ ms) = m ∷ take_out a ms
  less (later b) [] = []
  less (later b) (m ∷ ms) = m ∷ less b ms

  first_more : {k : Kept K} {ks ls : List (Kept K)} (b : Again k ks ls) (ms : List Car) → First K 𝟙 ms → First K 𝟙 (more b ms)
  first_more (behind a) [] h = absurd h
  first_more (behind a) (m ∷ ms) h = h
  first_more (later b) [] h = absurd h
  first_more (later b) (m ∷ ms) h = h

  first_less : {k : Kept K} {ks ls : List (Kept K)} (b : Again k ks ls) (ms : List Car) → First K 𝟙 ms → First K 𝟙 (less b ms)
  first_less (behind a) [] h = absurd h
  first_less (behind a) (m ∷ ms) h = h
  first_less (later b) [] h = absurd h
  first_less (later b) (m ∷ ms) h = h

  module _ (f : Polynomial K) where
    -- the equations of one point
    abbrev Here : Kept K → Car → Type 0
    Here k m = (i : ℕ) → i < 8 → value K.ring f k.point i ≡ m * k.image i

    put_holds : {k : Kept K} {ks ls : List (Kept K)} (a : Inserted k ks ls) (m : Car) (ms : List Car) → Here k m → Equations K f ks ms
        → Equations K f ls (put a m ms)
    put_holds here m ms h e = (h, e)
    put_holds (there a) m [] h e = absurd e
    put_holds (there a) m (n ∷ ms) h e = (e.0, put_holds a m ms h e.1)

    out_holds : {k : Kept K} {ks ls : List (Kept K)} (a : Inserted k ks ls) (ms : List Car) → Equations K f ls ms
        → (n : Car) × Here k n × Equations K f ks (take_out a ms) × (put a n (take_out a ms) ≡ ms)
    out_holds here [] e = absurd e
    out_holds here (m ∷ ms) e = (m, e.0, e.1, refl)
    out_holds (there a) [] e = absurd e
    out_holds (there a) (n ∷ ms) e = let r = out_holds a ms e.1 in (r.0, r.1, (e.0, r.2), ap (n ∷◌) r.3)

    take_out_put : {k : Kept K} {ks ls : List (Kept K)} (a : Inserted k ks ls) (m : Car) (ms : List Car) → Equations K f ks ms → take_out a (put a m ms) ≡ ms
    take_out_put here m ms e = refl
    take_out_put (there a) m [] e = absurd e
    take_out_put (there a) m (n ∷ ms) e = ap (n ∷◌) (take_out_put a m ms e.1)

    -- no harm: what solves without the point solves with it
    pub repeated_holds : {k : Kept K} {ks ls : List (Kept K)} (b : Again k ks ls) (ms : List Car) → Equations K f ks ms → Equations K f ls (more b ms)
    repeated_holds (behind a) [] e = absurd e
    repeated_holds (behind a) (m ∷ ms) e = (e.0, put_holds a m ms e.0 e.1)
    repeated_holds (later b) [] e = absurd e
    repeated_holds (later b) (m ∷ ms) e = (e.0, repeated_holds b ms e.1)

    less_more : {k : Kept K} {ks ls : List (Kept K)} (b : Again k ks ls) (ms : List Car) → Equations K f ks ms → less b (more b ms) ≡ ms
    less_more (behind a) [] e = refl
    less_more (behind a) (m ∷ ms) e = ap (m ∷◌) (take_out_put a m ms e.1)
    less_more (later b) [] e = refl
    less_more (later b) (m ∷ ms) e = ap (m ∷◌) (less_more b ms e.1)

    -- a point whose image is monic has one multiplier
    one_multiplier : (k : Kept K) (d : ℕ) → d < 8 → k.image d ≡ 𝟙 → (m n : Car) → Here k m → Here k n → m ≡ n
    one_multiplier k d l one m n h e =
        sym (mul_one m) ∙ ap (m *◌) (sym one) ∙ sym (h d l) ∙ e d l ∙ ap (n *◌) one ∙ mul_one n

    -- no knowledge: what solves with it solves without it, and has no freedom more
    pub repeated_adds_nothing : {k : Kept K} {ks ls : List (Kept K)} (d : ℕ) → d < 8 → k.image d ≡ 𝟙 → (b : Again k ks ls) (ms : List Car)
        → Equations K f ls ms → Equations K f ks (less b ms) × (more b (less b ms) ≡ ms)
    repeated_adds_nothing d l one (behind a) [] e = absurd e
    repeated_adds_nothing {k} d l one (behind a) (m ∷ ms) e =
        let r = out_holds a ms e.1 in
        ((e.0, r.2), ap (m ∷◌) (ap (λ (x : Car). put a x (take_out a ms)) (one_multiplier k d l one m r.0 e.0 r.1) ∙ r.3))
    repeated_adds_nothing d l one (later b) [] e = absurd e
    repeated_adds_nothing d l one (later b) (m ∷ ms) e =
        let r = repeated_adds_nothing d l one b ms e.1 in ((e.0, r.0), ap (m ∷◌) r.1)

  -- where solutions go over to solutions and back, with the same divisor, the verdict is the same
  module _ (A B : Polynomial K) (es : List Exponents) (ks ls : List (Kept K)) (to from : Unknowns K → Unknowns K)
      (solves_to : (s : Unknowns K) → Solution K es ks s → Solution K es ls (to s))
      (solves_from : (t : Unknowns K) → Solution K es ls t → Solution K es ks (from t))
      (from_to : (s : Unknowns K) → Solution K es ks s → from (to s) ≡ s) (to_from : (t : Unknowns K) → Solution K es ls t → to (from t) ≡ t)
      (same : (s : Unknowns K) → divisor K (to s) ≡ divisor K s) where
    only_to : (s : Unknowns K) → OnlySolution K es ks s → OnlySolution K es ls (to s)
    only_to s only = (solves_to s only.0, λ t h. sym (to_from t h) ∙ ap to (only.1 (from t) (solves_from t h)))

    same_verdict : (ceiling n : ℕ) (G : Polynomial K) (steps : ℕ) → Verdict K A B es ks ceiling n G steps → Verdict K A B es ls ceiling n G steps
    same_verdict ceiling n G steps (unsolvable z) = unsolvable (λ t h. z (from t) (solves_from t h))
    same_verdict ceiling n G steps (several q) = several (
      to q.0,
      to q.1,
      solves_to q.0 q.2,
      solves_to q.1 q.3,
      λ e. q.4 (sym (from_to q.0 q.2) ∙ ap from e ∙ from_to q.1 q.3),
    )
    same_verdict ceiling n G steps (divided s only x) =
        divided (to s) (only_to s only) (subst (λ (H : Polynomial K). Tried K A B H ceiling n G steps) (sym (same s)) x)

  -- the verdict on the kept points is the same with a point that is kept once more
  module _ (A B : Polynomial K) (es : List Exponents) {k : Kept K} {ks ls : List (Kept K)} (b : Again k ks ls) (d : ℕ) (small : d < 8)
      (one : k.image d ≡ 𝟙) where
    abbrev with_more : Unknowns K → Unknowns K
    with_more s = record { skeleton = s.skeleton; multipliers = more b s.multipliers }

    abbrev with_less : Unknowns K → Unknowns K
    with_less s = record { skeleton = s.skeleton; multipliers = less b s.multipliers }

    solves_more : (s : Unknowns K) → Solution K es ks s → Solution K es ls (with_more s)
    solves_more s h = record {
      proposed = h.proposed;
      one_first = first_more b s.multipliers h.one_first;
      holds = repeated_holds s.skeleton b s.multipliers h.holds;
    }

    solves_less : (s : Unknowns K) → Solution K es ls s → Solution K es ks (with_less s)
    solves_less s h = record {
      proposed = h.proposed;
      one_first = first_less b s.multipliers h.one_first;
      holds = (repeated_adds_nothing s.skeleton d small one b s.multipliers h.holds).0;
    }

    back_less : (s : Unknowns K) → Solution K es ks s → with_less (with_more s) ≡ s
    back_less s h =
        λ i. record { skeleton = s.skeleton; multipliers = less_more s.skeleton b s.multipliers h.holds i }

    back_more : (s : Unknowns K) → Solution K es ls s → with_more (with_less s) ≡ s
    back_more s h =
        λ i. record { skeleton = s.skeleton; multipliers = (repeated_adds_nothing s.skeleton d small one b s.multipliers h.holds).1 i }

    pub repeated_verdict : (ceiling n : ℕ) (G : Polynomial K) (steps : ℕ) → Verdict K A B es ks ceiling n G steps ↔ Verdict K A B es ls ceiling n G steps
    repeated_verdict ceiling n G steps = (
      same_verdict A B es ks ls with_more with_less solves_more solves_less back_less back_more (λ s. refl) ceiling n G steps,
      same_verdict A B es ls ks with_less with_more solves_less solves_more back_more back_less (λ s. refl) ceiling n G steps,
    )
