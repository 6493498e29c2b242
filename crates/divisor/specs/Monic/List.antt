-- The divisor of a solution as a list of terms: it is not empty, it falls, and read again it is the divisor of the rule.
use Rattle.std.specs.Prelude.{◌≡◌, refl, ℕ, ◌*◌, ◌%◌, ◌≤◌, ◌<◌, length}
use Rattle.std.proofs.Common.{sym, ◌∙◌, ap, subst, mod-lt}
use mathlib.Core.List.{List, [], ◌∷◌, map}
use Rattle.std.proofs.Math.Decide.{ℕ_discrete}
use native.Mathlib.Omega.{arith}
use Rattle.algebra.specs.Ring.{CommRing}
use Rattle.algebra.specs.Field.{Field}
use Rattle.algebra.specs.Laws.Field.{inv_nonzero}
use Rattle.field.specs.Prime.{Prime}
use Rattle.field.specs.Modulus.Prime.{prime_positive}
use Rattle.field.specs.Fp.{Fp, el, inv}
use Rattle.field.specs.Elements.Fp.{el_nonzero, el_val, val_lt}
use Rattle.field.specs.Elements.Link.{product_positive}
use Rattle.field.specs.Modulo.{Modulo}
use Rattle.poly.specs.Keys.{exponents, keys}
use Rattle.poly.specs.Terms.{Polynomial, key_of, terms_of, coefficient_limit}
use Rattle.poly.specs.PointValue.{value}
use Rattle.poly.specs.Lists.{Falling}
use Rattle.poly.specs.List.Laws.{FallFrom}
use Rattle.poly.specs.Key.Terms.{key_of_term, coefficient_of_term}
use Rattle.divisor.specs.Rule.{Kept, Solution, without_zeros, made_monic}
use Rattle.divisor.specs.Monic.Model.{leading, scaled_terms, monic_terms}
use Rattle.divisor.specs.Monic.Value.{value_without_zeros}
use Rattle.divisor.specs.Demand.Degree.{solution_at_first}
use Rattle.divisor.specs.Monic.Terms.{AllBelow, leading_zero, scaled_zero, scaled_here, skeleton_of, no_term, first_left, led, divisor_numbers}
use Rattle.divisor.specs.Verdict.Output.{divisor_within, read_numbers}

module _ (p : ℕ) (P : Prime p) (small : p < coefficient_limit) where
  abbrev K : Field
  K = Modulo p P

  abbrev R : CommRing
  R = K.ring

  -- the terms of keys that fall
  scaled_fall : (f : ℕ) → f < p → ¬ (f ≡ 0) → (b : ℕ) (ks cs : List ℕ) → FallFrom b ks → AllBelow p cs → Falling p b (scaled_terms p f ks cs)
  scaled_fall f lf nf b [] cs h a = (unfold scaled_terms in tt)
  scaled_fall f lf nf b (k ∷ ks) [] h a = (unfold scaled_terms in tt)
  scaled_fall f lf nf b (k ∷ ks) (c ∷ cs) h a = go (ℕ_discrete c 0) (λ n m. scaled_fall f lf nf n ks cs m a.1)
    where
      wider : (i j : ℕ) (ts : List ℕ) → i ≤ j → Falling p i ts → Falling p j ts
      wider i j [] l q = tt
      wider i j (t ∷ ts) l q = (let m : key_of t < i = q.0 in omega arith, q.1, q.2, q.3)

      go : Dec (c ≡ 0) → ((n : ℕ) → FallFrom n ks → Falling p n (scaled_terms p f ks cs)) → Falling p b (scaled_terms p f (k ∷ ks) (c ∷ cs))
      go (yes e) later =
          subst (Falling p b) (sym (scaled_zero p f k c ks cs e)) (wider k b (scaled_terms p f ks cs) (let m : k < b = h.0 in omega arith) (later k h.1))
      go (no n) later =
          let v = (c * f) % p in
          let lv : v < p = mod-lt (c * f) (prime_positive P) in
          let pv = product_positive p P c f a.0 n lf nf in
          let ek = key_of_term k v (omega arith) in
          let ec = coefficient_of_term k v (omega arith) in
          subst (Falling p b) (sym (scaled_here p f k c ks cs n)) (
            subst (λ (i : ℕ). i < b) (sym ek) h.0,
            subst (λ (i : ℕ). 0 < i) (sym ec) pv,
            subst (λ (i : ℕ). i < p) (sym ec) lv,
            subst (λ (i : ℕ). Falling p i (scaled_terms p f ks cs)) (sym ek) (later k h.1),
          )

  -- the first key whose coefficient is not 0 gives a term
  scaled_some : (f : ℕ) (ks cs : List ℕ) → length cs ≡ length ks → ¬ (leading cs ≡ 0) → 0 < length (scaled_terms p f ks cs)
  scaled_some f [] [] l n = absurd (n (unfold leading in refl))
  scaled_some f [] (c ∷ cs) l n = absurd (omega arith)
  scaled_some f (k ∷ ks) [] l n = absurd (omega arith)
  scaled_some f (k ∷ ks) (c ∷ cs) l n = elim (ℕ_discrete c 0) [
    | yes e ↦ rw (scaled_zero p f k c ks cs e) (scaled_some f ks cs (omega arith) (λ z. n (leading_zero c cs e ∙ z)))
    | no q ↦ rw (scaled_here p f k c ks cs q) (omega arith)
  ]

  inverse_nonzero : (a : ℕ) → a < p → ¬ (a ≡ 0) → ¬ ((inv (el p a)).val ≡ 0)
  inverse_nonzero a l n e = inv_nonzero K (el p a) (el_nonzero p a l n) (sym (el_val (inv (el p a))) ∙ ap (el p) e)

  -- what the code needs to know of the divisor's list
  pub record GoodList (ks cs : List ℕ) : Type 0 where
    pub led : ¬ (leading cs ≡ 0)
    pub some : 0 < length (monic_terms p ks cs)
    pub falls : Falling p keys (monic_terms p ks cs)
    pub reads : terms_of p P (monic_terms p ks cs) ≡ made_monic K (without_zeros K (skeleton_of p P ks cs))

  module _ (ks cs : List ℕ) (sized : length cs ≡ length ks) (below : AllBelow p cs) (fall : FallFrom keys ks)
      (kept : List (Kept (Modulo p P))) (k : Kept (Modulo p P)) (multipliers : List (Fp p))
      (solution : Solution (Modulo p P) (map exponents ks) (k ∷ kept) (record { skeleton = skeleton_of p P ks cs; multipliers = multipliers }))
      (d : ℕ) (dl : d < 8) (one : k.image d ≡ el p 1) where
    -- some coefficient is not 0, since the skeleton polynomial has 1 beside x^d at the first kept point
    not_empty : ¬ (without_zeros K (skeleton_of p P ks cs) ≡ [])
    not_empty e = K.one≢0
        (sym one ∙ sym (solution_at_first K (map exponents ks) k kept _ solution d dl)
        ∙ sym (value_without_zeros K (skeleton_of p P ks cs) k.point d)
        ∙ ap (λ (f : Polynomial K). value R f k.point d) e ∙ (unfold value in refl))

    pub good_list : GoodList ks cs
    good_list = elim (led p P ks cs sized below) [
      | no_term w z ↦ absurd (not_empty w)
      | first_left t ts w q n b ↦
          let u = inv (el p (leading cs)) in
          record {
            led = n;
            some = scaled_some u.val ks cs sized n;
            falls = scaled_fall u.val (val_lt (prime_positive P) u) (inverse_nonzero (leading cs) b n) keys ks cs fall below;
            reads = ap (terms_of p P) (sym (divisor_numbers p P ks cs sized below))
                ∙ read_numbers p P small (made_monic K (without_zeros K (skeleton_of p P ks cs))) (divisor_within K ks (k ∷ kept) _ solution).keyed;
          }
    ]
