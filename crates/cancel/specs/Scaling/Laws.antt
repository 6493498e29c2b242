-- A list of terms times a number that is not 0: it falls as before, and means the polynomial times the number.
use Rattle.std.specs.Prelude.{◌≡◌, ℕ, ◌*◌, ◌%◌, ◌<◌}
use Rattle.std.proofs.Math.Path.{sym, ap₂}
use Rattle.std.proofs.Common.{◌∙◌, ap, subst, mod-lt, arith}
use mathlib.Core.List.{List, [], ◌∷◌}
use Rattle.algebra.specs.Ring.{CommRing}
use Rattle.algebra.specs.Field.{Field}
use Rattle.algebra.specs.SeriesRing.{S4}
use Rattle.algebra.specs.Monomial.{monomial, polynomial}
use Rattle.algebra.specs.Laws.Ring.{zero_mul}
use Rattle.field.specs.Prime.{Prime}
use Rattle.field.specs.Modulus.Prime.{prime_positive}
use Rattle.field.specs.Fp.{el}
use Rattle.field.specs.Elements.Link.{product_el, product_positive}
use Rattle.field.specs.Modulo.{Modulo}
use Rattle.poly.specs.Keys.{exponents}
use Rattle.poly.specs.Terms.{coefficient_limit, key_of, coefficient_of, poly}
use Rattle.poly.specs.Lists.{Falling}
use Rattle.poly.specs.Key.Terms.{key_of_term, coefficient_of_term}
use Rattle.divisor.specs.Demands.{constant}
use Rattle.divisor.specs.Monic.Laws.{monomial_times}
use Rattle.cancel.specs.Scaling.Model.{term_times, times}

module _ (p : ℕ) (P : Prime p) (small : p < coefficient_limit) (c : ℕ) where
  abbrev K : Field
  K = Modulo p P

  abbrev R : CommRing
  R = K.ring

  -- the product's coefficient
  abbrev product : ℕ → ℕ
  product t = (coefficient_of t * c) % p

  product_below : (t : ℕ) → product t < p
  product_below t = mod-lt (coefficient_of t * c) (prime_positive P)

  same_key : (t : ℕ) → key_of (term_times p c t) ≡ key_of t
  same_key t = let l = product_below t in key_of_term (key_of t) (product t) (omega arith)

  its_coefficient : (t : ℕ) → coefficient_of (term_times p c t) ≡ product t
  its_coefficient t = let l = product_below t in coefficient_of_term (key_of t) (product t) (omega arith)

  pub times_falls : c < p → ¬ (c ≡ 0) → (b : ℕ) (ts : List ℕ) → Falling p b ts → Falling p b (times p c ts)
  times_falls l n b [] h = tt
  times_falls l n b (t ∷ ts) h = (
    subst (λ (k : ℕ). k < b) (sym (same_key t)) h.0,
    subst (λ (k : ℕ). 0 < k) (sym (its_coefficient t)) (product_positive p P (coefficient_of t) c h.2 (let m = h.1 in λ e. omega arith) l n),
    subst (λ (k : ℕ). k < p) (sym (its_coefficient t)) (product_below t),
    subst (λ (k : ℕ). Falling p k (times p c ts)) (sym (same_key t)) (times_falls l n (key_of t) ts h.3),
  )

  pub poly_times : (ts : List ℕ) → poly p P (times p c ts) ≡ (S4 (Modulo p P).ring).mul (poly p P ts) (constant (Modulo p P) (el p c))
  unfolding polynomial
  poly_times [] = sym (zero_mul (S4 R) (constant K (el p c)))
  poly_times (t ∷ ts) =
      ap₂ (S4 R).add
      (ap₂ (monomial R) (ap exponents (same_key t)) (ap (el p) (its_coefficient t) ∙ product_el p (coefficient_of t) c)
      ∙ sym (monomial_times K (exponents (key_of t)) (el p (coefficient_of t)) (el p c)))
      (poly_times ts)
      ∙ sym ((S4 R).distrib (monomial R (exponents (key_of t)) (el p (coefficient_of t))) (poly p P ts) (constant K (el p c)))
