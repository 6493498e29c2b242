-- The places of the sizes that are m: how many there are, and how an array of them is filled.
use Rattle.std.specs.Prelude.{◌≡◌, true, false, eqb, take, drop, set, replicate}
use Rattle.std.proofs.Common.{sym, ◌∙◌, ap₂, add-one, eq-eqb, ne_eqb, get_or-take}
use Rattle.std.proofs.Math.Path.{refl, ap, subst}
use mathlib.Core.List.{List, [], ◌∷◌, ◌++◌, append-nil}
use Prim.Native.Nat.{ℕ, zero, suc, ◌+◌, ◌≤◌, ◌<◌}
use Rattle.std.proofs.Math.Decide.{ℕ_discrete, dec_lt}
use native.Mathlib.Omega.{arith}
use Rattle.std.proofs.Math.ListN.{length, get_or, length-append, get_or-append}
use Rattle.std.proofs.lemmas.List.{length-replicate, get_or_at}
use Rattle.field.specs.Loops.Filled.{Filled}
use Rattle.field.specs.Loops.Cells.{filled_start, filled_next}
use Rattle.divisor.specs.Candidate.{most_points}
use Rattle.divisor.specs.Sorting.Model.{alike, places_before, HasPlaces}
use Rattle.divisor.specs.Sorting.Turns.{alike_same, alike_other, alike_end}

-- numbers below i, and i
one_below : (before : List ℕ) (i a : ℕ) → ((b : ℕ) → b < length before → get_or before b 0 < i) → a < length (before ++ (i ∷ []))
    → get_or (before ++ (i ∷ [])) a 0 < suc i
one_below before i a below l = elim (dec_lt a (length before)) [
  | yes h ↦ omega (arith, get_or-append before (i ∷ []) 0 a h, below a h)
  | no h ↦ let q : length before ≡ a = omega (arith, length-append before (i ∷ [])) in omega (arith, get_or_at before i [] 0 a q)
]

module _ (m : ℕ) (sizes : List ℕ) where
  -- one more size
  pub places_same : (i : ℕ) → get_or sizes i 0 ≡ m → places_before m sizes (suc i) ≡ places_before m sizes i ++ (i ∷ [])
  unfolding places_before
  places_same i e = rw (eq-eqb (get_or sizes i 0) m e, places_before)

  pub places_other : (i : ℕ) → ¬ (get_or sizes i 0 ≡ m) → places_before m sizes (suc i) ≡ places_before m sizes i
  unfolding places_before
  places_other i e = rw (ne_eqb (get_or sizes i 0) m e, places_before) (append-nil (places_before m sizes i))

  -- as many as are met, and those left
  met : (n i : ℕ) → n ≤ length sizes → i ≤ n
      → length (places_before m sizes i) + alike m (drop i (take n sizes)) ≡ alike m (take n sizes)
  unfolding places_before
  met n zero l h = omega arith
  met n (suc i) l h = elim (ℕ_discrete (get_or sizes i 0) m) [
    | yes e ↦
        let a = ap length (places_same i e) in let b = length-append (places_before m sizes i) (i ∷ []) in
        let q = alike_same sizes n i m l (omega arith) e ∙ ap (λ (k : ℕ). suc (alike m (drop k (take n sizes)))) (add-one i) in
        omega (arith, a, b, q, met n i l (omega arith))
    | no e ↦
        let a = ap length (places_other i e) in
        let q = alike_other sizes n i m l (omega arith) e ∙ ap (λ (k : ℕ). alike m (drop k (take n sizes))) (add-one i) in
        omega (arith, a, q, met n i l (omega arith))
  ]

  pub places_count : (n : ℕ) → n ≤ length sizes → length (places_before m sizes n) ≡ alike m (take n sizes)
  places_count n l = omega (arith, met n n l (omega arith), alike_end sizes n n m l (omega arith))

  -- of the first n sizes the places before i are the same
  pub places_first : (n i : ℕ) → i ≤ n → places_before m (take n sizes) i ≡ places_before m sizes i
  unfolding places_before
  places_first n zero l = refl
  places_first n (suc i) l =
      ap₂ ◌++◌ (places_first n i (omega arith))
      (ap {B = List ℕ} (λ s. elim (eqb s m) [ true ↦ i ∷ [] | false ↦ [] ]) (get_or-take n sizes i 0 (omega arith)))

  pub places_few : (i : ℕ) → length (places_before m sizes i) ≤ i
  unfolding places_before
  places_few zero = omega arith
  places_few (suc i) = elim (ℕ_discrete (get_or sizes i 0) m) [
    | yes e ↦
        let a = ap length (places_same i e) in let b = length-append (places_before m sizes i) (i ∷ []) in omega (arith, a, b, places_few i)
    | no e ↦ let a = ap length (places_other i e) in omega (arith, a, places_few i)
  ]

  -- a place before i is below i
  pub place_below : (i a : ℕ) → a < length (places_before m sizes i) → get_or (places_before m sizes i) a 0 < i
  unfolding places_before
  place_below zero a l = absurd (omega arith)
  place_below (suc i) a l = elim (ℕ_discrete (get_or sizes i 0) m) [
    | yes e ↦
        subst (λ (ps : List ℕ). get_or ps a 0 < suc i) (sym (places_same i e))
        (one_below (places_before m sizes i) i a (place_below i) (omega (arith, l, ap length (places_same i e))))
    | no e ↦
        subst (λ (ps : List ℕ). get_or ps a 0 < suc i) (sym (places_other i e))
        (omega (arith, place_below i a (omega (arith, l, ap length (places_other i e)))))
  ]

  pub places_start : HasPlaces m sizes 0 (replicate most_points 0)
  unfolding places_before
  places_start = filled_start (omega arith) (length-replicate {A = ℕ} most_points 0) (λ j l. absurd (omega arith))

  module _ (i : ℕ) {places : List ℕ} (h : HasPlaces m sizes i places) where
    pub places_passed : ¬ (get_or sizes i 0 ≡ m) → HasPlaces m sizes (i + 1) places
    places_passed e =
        subst (λ (ps : List ℕ). Filled (λ a. get_or ps a 0) most_points (replicate most_points 0) (length ps) places)
        (sym (ap (places_before m sizes) (add-one i) ∙ places_other i e)) h

    pub places_taken : get_or sizes i 0 ≡ m → i < most_points → (count : ℕ) → count ≡ length (places_before m sizes i)
        → HasPlaces m sizes (i + 1) (set places count i)
    places_taken e small count is =
        let ps = places_before m sizes i in
        let more : places_before m sizes (i + 1) ≡ ps ++ (i ∷ []) = ap (places_before m sizes) (add-one i) ∙ places_same i e in
        let longer : count + 1 ≡ length (ps ++ (i ∷ [])) = omega (arith, length-append ps (i ∷ [])) in
        let known : Filled (λ a. get_or (ps ++ (i ∷ [])) a 0) most_points (replicate most_points 0) count places = record {
          within = omega (arith, h.within);
          long = h.long;
          done = λ j l. h.done j (omega arith) ∙ sym (get_or-append ps (i ∷ []) 0 j (omega arith));
          left = λ j l. h.left j (omega arith);
        } in
        subst (λ (qs : List ℕ). Filled (λ a. get_or qs a 0) most_points (replicate most_points 0) (length qs) (set places count i)) (sym more)
        (subst (λ (a : ℕ). Filled (λ a. get_or (ps ++ (i ∷ [])) a 0) most_points (replicate most_points 0) a (set places count i)) longer
        (filled_next known (omega (arith, places_few i)) (sym (get_or_at ps i [] 0 count (sym is)))))
