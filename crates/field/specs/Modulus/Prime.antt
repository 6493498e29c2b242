-- A computed test of primes, by trial division, and what it gives.
use Rattle.std.specs.Prelude.{◌≡◌, refl, ◌⊎◌, Bool, true, false, ℕ, zero, suc, ◌*◌, ◌/◌, ◌%◌, ◌≤◌, ◌<◌, T, eqb, ltb}
use Rattle.std.proofs.Common.{sym, ap, ◌∙◌, inl, inr, true≢false, arith, mul-le-mul, mul-one, mul-zero, zero-mul, eq-eqb, ltb-true}
use Rattle.std.proofs.Math.Decide.{ℕ_discrete, dec_lt}
use Rattle.std.proofs.Math.Nat.{div-add-mod, dvd_of_mod-eq-zero, mod-eq-zero_of_dvd, mul-mod_left, mul-mod_right}
use Rattle.field.specs.Prime.{Prime}

-- A number above 1 with no divisor from 2 on whose square it reaches is prime: of a divisor and its partner one is below m.
module _ (p m : ℕ) (above : 1 < p) (small : p < m * m) (none : (d : ℕ) → 2 ≤ d → d < m → ¬ (p % d ≡ 0)) where
  no_factors : (d c : ℕ) → p ≡ d * c → ¬ (d ≡ 1) → ¬ (d ≡ p) → ⊥
  no_factors d c e not_one not_p = go (dec_lt d m) (dec_lt c m)
    where
      go : Dec (d < m) → Dec (c < m) → ⊥
      go (yes l) y =
          let not_zero : ¬ (d ≡ 0) = λ z. omega (arith, e ∙ ap (λ (n : ℕ). n * c) z ∙ zero-mul c) in
          none d (omega arith) l (ap (λ (n : ℕ). n % d) e ∙ mul-mod_right d c)
      go (no l) (yes y) =
          let not_zero : ¬ (c ≡ 0) = λ z. omega (arith, e ∙ ap (λ (n : ℕ). d * n) z ∙ mul-zero d) in
          let not_one : ¬ (c ≡ 1) = λ z. not_p (sym (e ∙ ap (λ (n : ℕ). d * n) z ∙ mul-one d)) in
          none c (omega arith) y (ap (λ (n : ℕ). n % c) e ∙ mul-mod_left d c)
      go (no l) (no y) =
          let h : m * m ≤ d * c = mul-le-mul (omega arith) (omega arith) in
          omega arith

  prime_below : Prime p
  prime_below = record { above = above; only = λ d h. go d (mod-eq-zero_of_dvd d h) (ℕ_discrete d 1) (ℕ_discrete d p) }
    where
      go : (d : ℕ) → p % d ≡ 0 → Dec (d ≡ 1) → Dec (d ≡ p) → (d ≡ 1) ⊎ (d ≡ p)
      go d e (yes a) b = inl a
      go d e (no a) (yes b) = inr b
      go d e (no a) (no b) = absurd (no_factors d (p / d) (omega (arith, div-add-mod p d)) a b)

-- Trial division from d on, up to the root of p. The fuel n only bounds the depth: p is always enough.
-- (An `elim`'s cases wait, so the test stops at the root; `◌&&◌` would run through the fuel.)
abbrev pub tried : ℕ → ℕ → ℕ → Bool
tried p zero d = false
tried p (suc n) d =
    elim (ltb p (d * d)) [ true ↦ true | false ↦ elim (eqb (p % d) 0) [ true ↦ false | false ↦ tried p n (suc d) ] ]

abbrev pub prime_test : ℕ → Bool
prime_test p = elim (ltb 1 p) [ true ↦ tried p p 2 | false ↦ false ]

-- with no divisor below d, the test from d on gives the definition
module _ (p : ℕ) (above : 1 < p) where
  abbrev Below : ℕ → Type 0
  Below d = (k : ℕ) → 2 ≤ k → k < d → ¬ (p % k ≡ 0)

  more : (d : ℕ) → Below d → eqb (p % d) 0 ≡ false → Below (suc d)
  more d h f k l u e = go (ℕ_discrete k d)
    where
      go : Dec (k ≡ d) → ⊥
      go (yes q) = true≢false (sym (eq-eqb (p % d) 0 (ap (λ (n : ℕ). p % n) (sym q) ∙ e)) ∙ f)
      go (no q) = h k l (omega arith) e

  tried_prime : (n d : ℕ) → Below d → T (tried p n d) → Prime p
  tried_prime zero d h t = absurd t
  tried_prime (suc n) d h t =
      root (ltb p (d * d)) refl (λ k u. tried_prime n (suc d) k u) t
    where
      divides : (b : Bool) → eqb (p % d) 0 ≡ b → (Below (suc d) → T (tried p n (suc d)) → Prime p)
          → T (elim b [ true ↦ false | false ↦ tried p n (suc d) ]) → Prime p
      divides true f again u = absurd u
      divides false f again u = again (more d h f) u

      root : (b : Bool) → ltb p (d * d) ≡ b → (Below (suc d) → T (tried p n (suc d)) → Prime p)
          → T (elim b [ true ↦ true | false ↦ elim (eqb (p % d) 0) [ true ↦ false | false ↦ tried p n (suc d) ] ]) → Prime p
      root true f again u = prime_below p d above (ltb-true p (d * d) f) h
      root false f again u = divides (eqb (p % d) 0) refl again u

-- the test gives the definition
pub test_prime : (p : ℕ) → T (prime_test p) → Prime p
test_prime p t = go (ltb 1 p) refl t
  where
    go : (b : Bool) → ltb 1 p ≡ b → T (elim b [ true ↦ tried p p 2 | false ↦ false ]) → Prime p
    go true e u = tried_prime p (ltb-true 1 p e) p 2 (λ k l m. absurd (omega arith)) u
    go false e u = absurd u

pub prime_positive : {p : ℕ} → Prime p → 0 < p
prime_positive P = omega (arith, P.above)

-- a number between 1 and a prime leaves a remainder
pub prime_leaves : {p : ℕ} → Prime p → (r : ℕ) → 1 < r → r < p → 0 < p % r
prime_leaves {p} P r h l = go (ℕ_discrete (p % r) 0)
  where
    go : Dec (p % r ≡ 0) → 0 < p % r
    go (yes e) = elim (P.only r (dvd_of_mod-eq-zero r e)) [ inl one ↦ omega arith | inr all ↦ omega arith ]
    go (no n) = omega arith
