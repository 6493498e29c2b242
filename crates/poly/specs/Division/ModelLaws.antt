-- The division on cells goes by the rule: a cell that is not 0 is one step.
use Rattle.std.specs.Prelude.{◌≡◌, ◌⊎◌, Bool, true, false, List, [], ◌∷◌, ℕ, suc, ◌-◌, ◌≤◌, ◌<◌, length, get_or}
use Rattle.std.proofs.Common.{sym, ◌∙◌, ap, ap₂, subst, inl, inr, true≢false, mod-lt, arith}
use Rattle.std.proofs.Math.Decide.{ℕ_discrete}
use Rattle.algebra.specs.Ring.{CommRing}
use Rattle.algebra.specs.SeriesRing.{S4}
use Rattle.algebra.specs.Polynomials.{domain}
use Rattle.algebra.specs.Four.{Exponents, ◌⊞◌, ◌≼◌, ◌≺◌, coef}
use Rattle.algebra.specs.Monomial.{term, monomial}
use Rattle.algebra.specs.Lead.{Lead}
use Rattle.algebra.specs.Division.{Sizes, Over, Goes, done, stop, step, Division}
use Rattle.algebra.specs.Laws.Division.{under_step}
use Rattle.field.specs.Fp.{Fp, el, mul}
use Rattle.field.specs.Elements.Fp.{el_below_inj, Fp_mul_assoc, Fp_mul_one}
use Rattle.field.specs.Prime.{Prime}
use Rattle.field.specs.Modulus.Prime.{prime_positive}
use Rattle.field.specs.Modulo.{Modulo}
use Rattle.field.specs.Elements.Link.{product_el}
use Rattle.poly.specs.Keys.{exponents, keys}
use Rattle.poly.specs.Terms.{key_of, coefficient_of, term_of, terms_of, poly, coefficient_limit, keyed}
use Rattle.poly.specs.Lists.{Falling}
use Rattle.field.specs.Loops.Places.{Clear, clear_one_less}
use Rattle.poly.specs.Key.Laws.{exponents_order}
use Rattle.poly.specs.List.Falling.{falling_keys}
use Rattle.poly.specs.Key.Terms.{key_of_term, coefficient_of_term, poly_head}
use Rattle.poly.specs.Division.Dense.{Reduced, MovesUp, dense, dense_at, dense_zero, dense_lead, less_dense, less_reduced, less_length}
use Rattle.poly.specs.Division.GreatestExponents.{exponent_most, most_small, sizes}
use Rattle.poly.specs.Division.Steps.{by_cells}
use Rattle.poly.specs.Division.Fitting.{Fits, fits_says, fits_of, moves_up}
use Rattle.field.specs.Loops.Cells.{past_end}
use Rattle.poly.specs.Division.Model.{most_of, Setting, fits, factor, less, divide_from, found_from}

module _ (p : ℕ) (P : Prime p) (word : p ≤ coefficient_limit) (t : ℕ) (ts : List ℕ) (u : ℕ) (us : List ℕ) (hf : Falling p keys (t ∷ ts))
    (hg : Falling p keys (u ∷ us))
    (inverse : ℕ) (is_inverse : mul (el p inverse) (el p (coefficient_of u)) ≡ el p 1)
    (bound : ℕ) (spare : exponents bound ⊞ most_of (u ∷ us) ≡ most_of (t ∷ ts)) where
  abbrev R : CommRing
  R = (Modulo p P).ring

  abbrev F : (S4 R).Car
  F = poly p P (t ∷ ts)

  abbrev G : (S4 R).Car
  G = poly p P (u ∷ us)

  abbrev S : Sizes R F G
  S = sizes p P t ts u us hf hg

  abbrev d : Setting
  d = record { modulus = p; terms = u ∷ us; lead = key_of u; inverse = inverse; bound = bound }

  -- the rule, with the cells l as the remainder
  abbrev Run : List ℕ → List ℕ → Bool → Type 0
  Run l qs whole = Goes R F G S (dense p P l) (terms_of p P qs) whole

  factor_below : (k : ℕ) (l : List ℕ) → factor d k l < p
  factor_below k l = mod-lt _ (prime_positive P)

  -- a cell that is not 0 and can be divided
  module _ (k : ℕ) (l : List ℕ) (long : length l ≡ keys) (red : Reduced p l) (zeros : Clear (suc k) l) (nonzero : ¬ (get_or l k 0 ≡ 0)) where
    leads : Lead R (exponents k) (dense p P l)
    leads = dense_lead p P l k red zeros nonzero

    module _ (h : fits d k ≡ true) where
      abbrev s : ℕ
      s = k - key_of u

      abbrev q : ℕ
      q = factor d k l

      abbrev T : ℕ
      T = keyed s q

      taken : Fits d (most_of (t ∷ ts)) (most_of (u ∷ us)) spare k
      taken = fits_says d (most_of (t ∷ ts)) (most_of (u ∷ us)) spare k h

      q_word : q < coefficient_limit
      q_word = let m : q < p = factor_below k l in omega arith

      T_exponents : exponents (key_of T) ≡ exponents s
      T_exponents = ap exponents (key_of_term s q q_word)

      T_coefficient : el p (coefficient_of T) ≡ el p q
      T_coefficient = ap (el p) (coefficient_of_term s q q_word)

      over : Over R F G S (exponents k) (exponents (key_of T))
      over =
          record {
            exact = taken.exact ∙ ap (λ (i : Exponents). i ⊞ exponents (key_of u)) (sym T_exponents);
            bounded = subst (λ (i : Exponents). i ⊞ most_of (u ∷ us) ≼ most_of (t ∷ ts)) (sym T_exponents) taken.bounded;
          }

      fitting : MovesUp s (length l) (u ∷ us)
      fitting =
          subst (λ (m : ℕ). MovesUp s m (u ∷ us)) (sym long)
          (moves_up s (most_of (t ∷ ts)) (most_of (u ∷ us)) taken.bounded
          (λ v. omega (arith, exponent_most v (t ∷ ts), most_small v (t ∷ ts) (falling_keys p keys (t ∷ ts) hf)))
          (u ∷ us) (λ v. omega (arith, exponent_most v (u ∷ us))))

      times_lead : mul (el p (coefficient_of T)) (coef R G (exponents (key_of u))) ≡ coef R (dense p P l) (exponents k)
      times_lead =
          ap₂ mul (T_coefficient ∙ product_el p (get_or l k 0) inverse) (poly_head p P u us hg.3)
          ∙ Fp_mul_assoc (el p (get_or l k 0)) (el p inverse) (el p (coefficient_of u))
          ∙ ap (mul (el p (get_or l k 0))) is_inverse
          ∙ Fp_mul_one _
          ∙ sym (dense_at p P l k)

      left : dense p P (less d k l) ≡ (S4 R).add (dense p P l) ((S4 R).neg ((S4 R).mul (term R (term_of p P T)) G))
      left =
          less_dense p P s q (u ∷ us) l (let m : q < p = factor_below k l in omega arith) fitting
          ∙ ap₂ (λ (i : Exponents) (c : Fp p). (S4 R).add (dense p P l) ((S4 R).neg ((S4 R).mul (monomial R i c) G))) (sym T_exponents) (sym T_coefficient)

      left_reduced : Reduced p (less d k l)
      left_reduced = less_reduced p P s q (u ∷ us) l red

      left_clear : Clear k (less d k l)
      left_clear i m =
          el_below_inj p (get_or (less d k l) i 0) 0 (left_reduced i) (prime_positive P)
          (sym (dense_at p P (less d k l) i) ∙ ap (λ (r : (S4 R).Car). coef R r (exponents i)) left
          ∙ under_step R (domain (Modulo p P)) (λ c. tt) F G S (exponents k) (term_of p P T) (dense p P l) leads over times_lead (exponents i)
          (above (ℕ_discrete i k)))
        where
          above : Dec (i ≡ k) → (exponents i ≡ exponents k) ⊎ (exponents k ≺ exponents i)
          above (yes e) = inl (ap exponents e)
          above (no n) = inr (exponents_order k i (omega arith))

      take_cell : (qs : List ℕ) (whole : Bool)
          → (length (less d k l) ≡ keys → Reduced p (less d k l) → Clear k (less d k l) → Run (less d k l) qs whole)
          → Run l (T ∷ qs) whole
      take_cell qs whole again =
          step (exponents k) (term_of p P T) leads over times_lead
          (subst (λ (r : (S4 R).Car). Goes R F G S r (terms_of p P qs) whole) left
          (again (less_length p s q (u ∷ us) l ∙ long) left_reduced left_clear))

    -- one that cannot
    stop_cell : fits d k ≡ false → Run l [] false
    stop_cell h =
        stop (exponents k) leads
        (λ e o. true≢false (sym (fits_of d (most_of (t ∷ ts)) (most_of (u ∷ us)) spare k e o.exact o.bounded) ∙ h))

  -- one cell after the other, the model takes the rule's steps
  goes : (k : ℕ) (l c : List ℕ) → length l ≡ keys → Reduced p l → Clear k l → Run l (found_from d k l) (divide_from d k l c).whole
  goes =
      by_cells d (λ k l c qs o. length l ≡ keys → Reduced p l → Clear k l → Run l qs o.whole)
      (λ l c long red z. done (dense_zero p P l (λ i. z i (omega arith))))
      (λ k l c qs o e again long red z. again long red (clear_one_less k l e z))
      (λ k l c qs o n f again long red z. take_cell k l long red z n f qs o.whole again)
      (λ k l c n f long red z. stop_cell k l long red z n f)

  -- the division of the cells that mean f
  pub model_division : (l c : List ℕ) → length l ≡ keys → Reduced p l → dense p P l ≡ F
      → Division R F G (terms_of p P (found_from d keys l)) (divide_from d keys l c).whole
  model_division l c long red e =
      record {
        sizes = S;
        goes =
            subst (λ (r : (S4 R).Car). Goes R F G S r (terms_of p P (found_from d keys l)) (divide_from d keys l c).whole) e
            (goes keys l c long red (λ i m. past_end keys i l long m));
      }
