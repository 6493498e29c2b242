-- The parts of a term; the polynomial of a list of terms: which coefficients it has, its leading term, and that a list that passes the
-- check is known by it.
use Rattle.std.specs.Prelude.{◌≡◌, refl, List, [], ◌∷◌, ℕ, suc, ◌<◌, length}
use Rattle.std.proofs.Common.{◌∙◌, ap₂, arith}
use Rattle.std.proofs.Math.Path.{ap}
use Rattle.algebra.specs.Ring.{CommRing}
use Rattle.algebra.specs.Polynomials.{D4, domain}
use Rattle.algebra.specs.Four.{coef}
use Rattle.algebra.specs.Monomial.{Term, polynomial, FallsBelow, Falls}
use Rattle.algebra.specs.Lead.{Lead}
use Rattle.algebra.specs.Laws.Ring.{zero_add}
use Rattle.algebra.specs.Laws.Monomial.{monomial_off}
use Rattle.algebra.specs.Laws.Falls.{first_coefficient, falls_lead, falls_determined}
use Rattle.field.specs.Prime.{Prime}
use Rattle.field.specs.Fp.{el}
use Rattle.field.specs.Elements.Fp.{el_below_inj, el_nonzero}
use Rattle.field.specs.Modulo.{Modulo}
use Rattle.poly.specs.Keys.{keys, exponents}
use Rattle.poly.specs.Terms.{coefficient_limit, keyed, key_of, coefficient_of, term_of, terms_of, poly}
use Rattle.poly.specs.Lists.{WrongModulo, Falling}
use Rattle.poly.specs.Key.Laws.{exponents_injective, exponents_order}
use Rattle.poly.specs.List.Laws.{terms_fall}
use Rattle.poly.specs.Value.Laws.{polynomial_finite}

-- the term of a key and a coefficient has them
pub key_of_term : (n q : ℕ) → q < coefficient_limit → key_of (keyed n q) ≡ n
key_of_term n q h = omega arith

pub coefficient_of_term : (n q : ℕ) → q < coefficient_limit → coefficient_of (keyed n q) ≡ q
coefficient_of_term n q h = omega arith

-- a term is known by its key and its coefficient
same_term : (t u : ℕ) → key_of t ≡ key_of u → coefficient_of t ≡ coefficient_of u → t ≡ u
same_term t u a b = omega arith

module _ (p : ℕ) (P : Prime p) where
  abbrev R : CommRing
  R = (Modulo p P).ring

  -- it is one: of finite support
  pub poly_finite : (ts : List ℕ) → (D4 R (domain (Modulo p P))).P (poly p P ts)
  poly_finite ts = polynomial_finite (Modulo p P) (terms_of p P ts)

  -- the terms of a list that falls fall
  below_falls : (ts : List ℕ) (b : ℕ) → Falling p b ts → FallsBelow R (exponents b) (terms_of p P ts)
  below_falls [] b h = tt
  below_falls (t ∷ ts) b h = (
    exponents_order (key_of t) b h.0,
    el_nonzero p (coefficient_of t) h.2 (let l = h.1 in omega arith),
    below_falls ts (key_of t) h.3,
  )

  falling_falls : (ts : List ℕ) (b : ℕ) → Falling p b ts → Falls R (terms_of p P ts)
  falling_falls [] b h = tt
  falling_falls (t ∷ ts) b h = let f = below_falls (t ∷ ts) b h in (f.1, f.2)

  pub poly_head : (t : ℕ) (ts : List ℕ) → Falling p (key_of t) ts → coef R (poly p P (t ∷ ts)) (exponents (key_of t)) ≡ el p (coefficient_of t)
  poly_head t ts h = first_coefficient R (term_of p P t) (terms_of p P ts) (below_falls ts (key_of t) h)

  -- at another key than the first term's, the coefficient of the rest
  pub poly_rest : (t : ℕ) (ts : List ℕ) (k : ℕ) → ¬ (key_of t ≡ k) → coef R (poly p P (t ∷ ts)) (exponents k) ≡ coef R (poly p P ts) (exponents k)
  unfolding polynomial
  poly_rest t ts k n =
      ap (λ (c : R.Car). R.add c (coef R (poly p P ts) (exponents k)))
      (monomial_off R (exponents (key_of t)) (exponents k) (el p (coefficient_of t)) (λ q. n (exponents_injective (key_of t) k q)))
      ∙ zero_add R _

  -- the first term is the leading term
  pub poly_lead : (t : ℕ) (ts : List ℕ) (b : ℕ) → Falling p b (t ∷ ts) → Lead R (exponents (key_of t)) (poly p P (t ∷ ts))
  poly_lead t ts b h = falls_lead R (term_of p P t) (terms_of p P ts) (falling_falls (t ∷ ts) b h)

  -- a falling list is known by its terms
  same_terms : (ts us : List ℕ) (a b : ℕ) → Falling p a ts → Falling p b us → terms_of p P ts ≡ terms_of p P us → ts ≡ us
  same_terms [] [] a b h k e = refl
  same_terms [] (u ∷ us) a b h k e = absurd (let z : ◌≡◌ {A = ℕ} 0 (suc (length (terms_of p P us))) = ap length e in omega arith)
  same_terms (t ∷ ts) [] a b h k e = absurd (let z : suc (length (terms_of p P ts)) ≡ 0 = ap length e in omega arith)
  same_terms (t ∷ ts) (u ∷ us) a b h k e =
      let first : term_of p P t ≡ term_of p P u = cc in
      let rest : terms_of p P ts ≡ terms_of p P us = cc in
      let q = exponents_injective (key_of t) (key_of u) (ap (λ (x : Term R). x.exponents) first) in
      let c = el_below_inj p (coefficient_of t) (coefficient_of u) h.2 k.2 (ap (λ (x : Term R). x.coefficient) first) in
      ap₂ ◌∷◌ (same_term t u q c) (same_terms ts us (key_of t) (key_of u) h.3 k.3 rest)

  -- and these by its polynomial: two lists that mean the same are the same
  pub poly_determines : (ts us : List ℕ) (a b : ℕ) → Falling p a ts → Falling p b us → poly p P ts ≡ poly p P us → ts ≡ us
  poly_determines ts us a b h k e =
      same_terms ts us a b h k (falls_determined R (terms_of p P ts) (terms_of p P us) (falling_falls ts a h) (falling_falls us b k) e)

  -- the same of lists that pass the check of their terms
  pub right_lists_equal : (ts us : List ℕ) → ((i : ℕ) → ¬ WrongModulo p ts i) → ((i : ℕ) → ¬ WrongModulo p us i)
      → poly p P ts ≡ poly p P us → ts ≡ us
  right_lists_equal ts us h k e =
      poly_determines ts us keys keys (terms_fall p ts (λ i w. h i w.0)) (terms_fall p us (λ i w. k i w.0)) e
