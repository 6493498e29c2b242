-- The turns of the loops that sort the points and that make the divisor, over the first n of a list.
use Rattle.std.specs.Prelude.{◌≡◌, ℕ, suc, ◌+◌, ◌*◌, ◌%◌, ◌≤◌, ◌<◌, length, get_or, take, drop}
use Rattle.std.proofs.Common.{sym, ◌∙◌, ap₂, add-one, arith, drop_of_length-le, drop-cons, get_or-take, eq-eqb, ne_eqb}
use Rattle.std.proofs.Math.Path.{ap}
use mathlib.Core.List.{List, [], ◌∷◌}
use Rattle.std.proofs.Math.Seq.{length-take-le}
use Rattle.poly.specs.Terms.{keyed}
use Rattle.divisor.specs.Sorting.Model.{alike}
use Rattle.divisor.specs.Monic.Model.{scaled_terms}
use Rattle.divisor.specs.Monic.Terms.{scaled_zero, scaled_here}

module _ (list : List ℕ) (n i : ℕ) where
  next_left : n ≤ length list → i < n → drop i (take n list) ≡ get_or list i 0 ∷ drop (i + 1) (take n list)
  next_left l h =
      drop-cons (take n list) i 0 (let e = length-take-le n list l in omega arith)
      ∙ ap (λ (x : ℕ). x ∷ drop (suc i) (take n list)) (get_or-take n list i 0 h)
      ∙ ap (λ (k : ℕ). get_or list i 0 ∷ drop k (take n list)) (sym (add-one i))

  pub alike_same : (m : ℕ) → n ≤ length list → i < n → get_or list i 0 ≡ m → alike m (drop i (take n list)) ≡ suc (alike m (drop (i + 1) (take n list)))
  unfolding alike
  alike_same m l h e = ap (alike m) (next_left l h) ∙ rw (eq-eqb (get_or list i 0) m e, alike)

  pub alike_other : (m : ℕ) → n ≤ length list → i < n → ¬ (get_or list i 0 ≡ m) → alike m (drop i (take n list)) ≡ alike m (drop (i + 1) (take n list))
  unfolding alike
  alike_other m l h e = ap (alike m) (next_left l h) ∙ rw (ne_eqb (get_or list i 0) m e, alike)

  pub alike_end : (m : ℕ) → n ≤ length list → n ≤ i → alike m (drop i (take n list)) ≡ 0
  unfolding alike
  alike_end m l h = ap (alike m) (drop_of_length-le (take n list) {i = i} (let e = length-take-le n list l in omega arith))

-- a loop over keys and their coefficients: the terms of those left
abbrev pub terms_left : ℕ → ℕ → List ℕ → List ℕ → ℕ → List ℕ
terms_left p f ks values i = scaled_terms p f (drop i ks) (drop i (take (length ks) values))

module _ (p f : ℕ) (ks values : List ℕ) (i : ℕ) (long : length ks ≤ length values) where
  keys_left : i < length ks → drop i ks ≡ get_or ks i 0 ∷ drop (i + 1) ks
  keys_left h = drop-cons ks i 0 h ∙ ap (λ (k : ℕ). get_or ks i 0 ∷ drop k ks) (sym (add-one i))

  pub left_passed : i < length ks → get_or values i 0 ≡ 0 → terms_left p f ks values i ≡ terms_left p f ks values (i + 1)
  left_passed h e =
      ap₂ (scaled_terms p f) (keys_left h) (next_left values (length ks) i long h) ∙ scaled_zero p f (get_or ks i 0) (get_or values i 0) _ _ e

  pub left_taken : i < length ks → ¬ (get_or values i 0 ≡ 0)
      → terms_left p f ks values i ≡ keyed (get_or ks i 0) ((get_or values i 0 * f) % p) ∷ terms_left p f ks values (i + 1)
  left_taken h e =
      ap₂ (scaled_terms p f) (keys_left h) (next_left values (length ks) i long h) ∙ scaled_here p f (get_or ks i 0) (get_or values i 0) _ _ e

  pub left_none : length ks ≤ i → terms_left p f ks values i ≡ []
  unfolding scaled_terms
  left_none h = ap (λ (l : List ℕ). scaled_terms p f l (drop i (take (length ks) values))) (drop_of_length-le ks {i = i} h)
