-- The numbers that the code makes of a solution are the terms of its divisor.
use Rattle.std.specs.Prelude.{◌≡◌, refl, ℕ, zero, suc, ◌*◌, ◌%◌, ◌<◌, ◌≤◌, length, get_or, take}
use Rattle.std.proofs.Math.Path.{sym, ap}
use Rattle.std.proofs.Common.{◌∙◌, ap₂, subst, arith, eq-eqb, ne_eqb}
use mathlib.Core.List.{List, [], ◌∷◌, map}
use Rattle.std.proofs.Math.Decide.{ℕ_discrete}
use Rattle.std.proofs.Math.Nat.{mod-mod}
use Rattle.algebra.specs.Ring.{CommRing}
use Rattle.algebra.specs.Field.{Field}
use Rattle.algebra.specs.Monomial.{Term}
use Rattle.field.specs.Prime.{Prime}
use Rattle.field.specs.Fp.{Fp, el, inv, mul}
use Rattle.field.specs.Elements.Fp.{el_nonzero, el_val, val_of_el}
use Rattle.field.specs.Elements.Link.{product_el}
use Rattle.field.specs.Modulo.{Modulo}
use Rattle.poly.specs.Keys.{key, exponents}
use Rattle.poly.specs.Terms.{Polynomial, numbers_of, keyed}
use Rattle.poly.specs.Key.Laws.{key_of_exponents}
use Rattle.divisor.specs.Rule.{without_zeros, divided_by, made_monic}
use Rattle.divisor.specs.Equations.Rows.{with_coefficients}
use Rattle.divisor.specs.Monic.Model.{leading, scaled_terms, monic_terms}
use Rattle.divisor.specs.Monic.Value.{zero_dropped, nonzero_kept}

-- each number is below p
abbrev pub AllBelow : ℕ → List ℕ → Type 0
AllBelow p [] = Unit {0}
AllBelow p (c ∷ cs) = (c < p) × AllBelow p cs

pub all_below : (p n : ℕ) (l : List ℕ) → ((i : ℕ) → get_or l i 0 < p) → AllBelow p (take n l)
all_below p zero l h = tt
all_below p (suc n) [] h = tt
all_below p (suc n) (x ∷ l) h = (h 0, all_below p n l (λ i. h (suc i)))

pub leading_zero : (c : ℕ) (cs : List ℕ) → c ≡ 0 → leading (c ∷ cs) ≡ leading cs
unfolding leading
leading_zero c cs e = rw (eq-eqb c 0 e, leading)

pub leading_here : (c : ℕ) (cs : List ℕ) → ¬ (c ≡ 0) → leading (c ∷ cs) ≡ c
unfolding leading
leading_here c cs n = rw (ne_eqb c 0 n, leading)

-- the leading coefficient is one of them, or 0
pub leading_below : (p : ℕ) → 0 < p → (n : ℕ) (cs : List ℕ) → ((i : ℕ) → get_or cs i 0 < p) → leading (take n cs) < p
leading_below p pos zero cs h = (unfold leading in pos)
leading_below p pos (suc n) [] h = (unfold leading in pos)
leading_below p pos (suc n) (c ∷ cs) h = elim (ℕ_discrete c 0) [
  | yes e ↦ rw (leading_zero c (take n cs) e) (leading_below p pos n cs (λ i. h (suc i)))
  | no q ↦ rw (leading_here c (take n cs) q) (h 0)
]

pub scaled_zero : (p f k c : ℕ) (ks cs : List ℕ) → c ≡ 0 → scaled_terms p f (k ∷ ks) (c ∷ cs) ≡ scaled_terms p f ks cs
unfolding scaled_terms
scaled_zero p f k c ks cs e = rw (eq-eqb c 0 e, scaled_terms)

pub scaled_here : (p f k c : ℕ) (ks cs : List ℕ) → ¬ (c ≡ 0) → scaled_terms p f (k ∷ ks) (c ∷ cs) ≡ keyed k ((c * f) % p) ∷ scaled_terms p f ks cs
unfolding scaled_terms
scaled_here p f k c ks cs n = rw (ne_eqb c 0 n, scaled_terms)

-- not more terms than keys
scaled_count : (p f : ℕ) (ks cs : List ℕ) → length (scaled_terms p f ks cs) ≤ length ks
unfolding scaled_terms
scaled_count p f [] cs = omega arith
scaled_count p f (k ∷ ks) [] = omega arith
scaled_count p f (k ∷ ks) (c ∷ cs) =
    let h = scaled_count p f ks cs in
    elim (ℕ_discrete c 0) [
      | yes e ↦ rw (scaled_zero p f k c ks cs e) (omega arith)
      | no n ↦ rw (scaled_here p f k c ks cs n) (omega arith)
    ]

pub monic_count : (p : ℕ) (ks cs : List ℕ) → length (monic_terms p ks cs) ≤ length ks
monic_count p ks cs = scaled_count p _ ks cs

module _ (p : ℕ) (P : Prime p) where
  abbrev K : Field
  K = Modulo p P

  abbrev R : CommRing
  R = K.ring

  -- the skeleton polynomial whose coefficients are these numbers
  abbrev pub skeleton_of : List ℕ → List ℕ → Polynomial (Modulo p P)
  skeleton_of ks cs = with_coefficients (Modulo p P) (map exponents ks) (map (el p) cs)

  module _ (k : ℕ) (ks : List ℕ) (c : ℕ) (cs : List ℕ) where
    abbrev first_term : Term R
    first_term = record { exponents = exponents k; coefficient = el p c }

    without_zero : c ≡ 0 → without_zeros K (skeleton_of (k ∷ ks) (c ∷ cs)) ≡ without_zeros K (skeleton_of ks cs)
    without_zero e = zero_dropped K first_term (skeleton_of ks cs) (ap (el p) e)

    with_first : c < p → ¬ (c ≡ 0) → without_zeros K (skeleton_of (k ∷ ks) (c ∷ cs)) ≡ first_term ∷ without_zeros K (skeleton_of ks cs)
    with_first l n = nonzero_kept K first_term (skeleton_of ks cs) (el_nonzero p c l n)

  number_divided : (k c : ℕ) (u : Fp p) → keyed (key (exponents k)) (mul (el p c) u).val ≡ keyed k ((c * u.val) % p)
  number_divided k c u = ap₂ keyed (key_of_exponents k)
      (ap (λ (x : Fp p). (mul (el p c) x).val) (sym (el_val u)) ∙ ap (λ (x : Fp p). x.val) (sym (product_el p c u.val))
      ∙ val_of_el p ((c * u.val) % p) ∙ mod-mod (c * u.val) p)

  -- zeros dropped and all divided by a number
  divided_numbers : (a : Fp p) (ks cs : List ℕ) → length cs ≡ length ks → AllBelow p cs
      → numbers_of p P (divided_by K a (without_zeros K (skeleton_of ks cs))) ≡ scaled_terms p (inv a).val ks cs
  unfolding divided_by
  divided_numbers a [] [] l h = (unfold without_zeros scaled_terms in refl)
  divided_numbers a [] (c ∷ cs) l h = absurd (omega arith)
  divided_numbers a (k ∷ ks) [] l h = absurd (omega arith)
  divided_numbers a (k ∷ ks) (c ∷ cs) l h =
      let r = divided_numbers a ks cs (omega arith) h.1 in
      elim (ℕ_discrete c 0) [
        | yes e ↦ rw (without_zero k ks c cs e) (r ∙ sym (scaled_zero p (inv a).val k c ks cs e))
        | no n ↦ rw (with_first k ks c cs h.0 n) (ap₂ ◌∷◌ (number_divided k c (inv a)) r ∙ sym (scaled_here p (inv a).val k c ks cs n))
      ]

  -- the first term that is left has the leading coefficient
  pub data Led (ks cs : List ℕ) : Type 0 where
    no_term : without_zeros K (skeleton_of ks cs) ≡ [] → leading cs ≡ 0 → Led ks cs
    first_left : (t : Term (Modulo p P).ring) (ts : Polynomial (Modulo p P)) → without_zeros K (skeleton_of ks cs) ≡ t ∷ ts
        → t.coefficient ≡ el p (leading cs) → ¬ (leading cs ≡ 0) → leading cs < p → Led ks cs

  pub led : (ks cs : List ℕ) → length cs ≡ length ks → AllBelow p cs → Led ks cs
  led [] [] l h = no_term (unfold without_zeros in refl) (unfold leading in refl)
  led [] (c ∷ cs) l h = absurd (omega arith)
  led (k ∷ ks) [] l h = absurd (omega arith)
  led (k ∷ ks) (c ∷ cs) l h = go (ℕ_discrete c 0) (led ks cs (omega arith) h.1)
    where
      go : Dec (c ≡ 0) → Led ks cs → Led (k ∷ ks) (c ∷ cs)
      go (yes e) (no_term w z) = no_term (without_zero k ks c cs e ∙ w) (leading_zero c cs e ∙ z)
      go (yes e) (first_left t ts w q n b) =
          first_left t ts (without_zero k ks c cs e ∙ w) (q ∙ ap (el p) (sym (leading_zero c cs e))) (λ z. n (sym (leading_zero c cs e) ∙ z))
          (subst (λ (m : ℕ). m < p) (sym (leading_zero c cs e)) b)
      go (no n) r = first_left (first_term k ks c cs) (without_zeros K (skeleton_of ks cs)) (with_first k ks c cs h.0 n)
          (ap (el p) (sym (leading_here c cs n))) (λ z. n (sym (leading_here c cs n) ∙ z)) (subst (λ (m : ℕ). m < p) (sym (leading_here c cs n)) h.0)

  -- the numbers of the divisor
  pub divisor_numbers : (ks cs : List ℕ) → length cs ≡ length ks → AllBelow p cs
      → numbers_of p P (made_monic K (without_zeros K (skeleton_of ks cs))) ≡ monic_terms p ks cs
  unfolding made_monic divided_by
  divisor_numbers ks cs l h = elim (led ks cs l h) [
    | no_term w z ↦ ap (numbers_of p P) (ap (made_monic K) w ∙ sym (ap (divided_by K (el p (leading cs))) w)) ∙ divided_numbers (el p (leading cs)) ks cs l h
    | first_left t ts w q n b ↦
        ap (numbers_of p P) (ap (made_monic K) w ∙ ap (λ (a : Fp p). divided_by K a (t ∷ ts)) q ∙ ap (divided_by K (el p (leading cs))) (sym w))
        ∙ divided_numbers (el p (leading cs)) ks cs l h
  ]
