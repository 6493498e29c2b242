-- Dropping zero coefficients and dividing by a number, at a point: what they do to the value.
use Rattle.std.specs.Prelude.{◌≡◌, ℕ}
use Rattle.std.proofs.Math.Path.{refl, sym, ap, ap₂}
use Rattle.std.proofs.Common.{◌∙◌}
use mathlib.Core.List.{[], ◌∷◌}
use Rattle.algebra.specs.Ring.{pow}
use Rattle.algebra.specs.Field.{Field}
use Rattle.algebra.specs.Polynomials.{domain}
use Rattle.algebra.specs.Mono.{mono}
use Rattle.algebra.specs.Monomial.{Term}
use Rattle.algebra.specs.Laws.Ring.{zero_add, zero_mul}
use Rattle.algebra.specs.Laws.Field.{inv_nonzero}
use Rattle.algebra.specs.Laws.Solver.{◌⊗◌, ◌≗◌, k0, ring3, ring5}
use Rattle.algebra.specs.Laws.Mono.{mono_times, mono_null}
use Rattle.poly.specs.Terms.{Polynomial}
use Rattle.poly.specs.PointValue.{Point, value, number_at}
use Rattle.divisor.specs.Rule.{without_zeros, divided_by, made_monic}
use Rattle.divisor.specs.Monic.Decided.{decided_yes, decided_no}

module _ (K : Field) where
  open K use {ring as R}
  open R use {Car, 𝟘, add as ◌+◌, mul as ◌*◌}

  infixl 60 ◌+◌
  infixl 70 ◌*◌
  pub zero_dropped : (t : Term R) (ts : Polynomial K) → t.coefficient ≡ 𝟘 → without_zeros K (t ∷ ts) ≡ without_zeros K ts
  unfolding without_zeros
  zero_dropped t ts z = decided_yes (K.decide t.coefficient) _ _ z

  pub nonzero_kept : (t : Term R) (ts : Polynomial K) → ¬ (t.coefficient ≡ 𝟘) → without_zeros K (t ∷ ts) ≡ t ∷ without_zeros K ts
  unfolding without_zeros
  nonzero_kept t ts n = decided_no (K.decide t.coefficient) _ _ n

  abbrev pub NonZero : Polynomial K → Type 0
  NonZero [] = Unit {0}
  NonZero (t ∷ ts) = (¬ (t.coefficient ≡ 𝟘)) × NonZero ts

  pub without_zeros_nonzero : (f : Polynomial K) → NonZero (without_zeros K f)
  unfolding without_zeros
  without_zeros_nonzero [] = tt
  without_zeros_nonzero (t ∷ ts) = elim (K.decide t.coefficient) [
    | yes e ↦ rw (zero_dropped t ts e) (without_zeros_nonzero ts)
    | no q ↦ rw (nonzero_kept t ts q) (q, without_zeros_nonzero ts)
  ]

  -- every value is divided with the coefficients
  pub value_divided : (c : Car) (f : Polynomial K) (at : Point R) (n : ℕ) → value R (divided_by K c f) at n ≡ value R f at n * K.inv c
  unfolding value divided_by
  value_divided c [] at n = sym (zero_mul R _)
  value_divided c (t ∷ ts) at n =
      let e = t.exponents in
      ap₂ ◌+◌
      (ap (λ (u : Car). mono R e.x u n)
      (ring5 R (λ u i a b c. u ⊗ i ⊗ a ⊗ b ⊗ c ≗ u ⊗ a ⊗ b ⊗ c ⊗ i) tt
      t.coefficient (K.inv c) (pow R at.y e.y) (pow R at.z e.z) (pow R at.w e.w))
      ∙ mono_times R e.x (number_at R at t) (K.inv c) n)
      (value_divided c ts at n)
      ∙ sym (R.distrib _ _ _)

  -- zero coefficients add nothing
  number_null : (at : Point R) (t : Term R) → t.coefficient ≡ 𝟘 → number_at R at t ≡ 𝟘
  number_null at t z =
      let e = t.exponents in
      ap (λ (u : Car). u * pow R at.y e.y * pow R at.z e.z * pow R at.w e.w) z
      ∙ ring3 R (λ a b c. k0 ⊗ a ⊗ b ⊗ c ≗ k0) tt (pow R at.y e.y) (pow R at.z e.z) (pow R at.w e.w)

  pub value_without_zeros : (f : Polynomial K) (at : Point R) (n : ℕ) → value R (without_zeros K f) at n ≡ value R f at n
  unfolding value without_zeros
  value_without_zeros [] at n = refl
  value_without_zeros (t ∷ ts) at n = elim (K.decide t.coefficient) [
    | yes e ↦
        let z = ap (λ (u : Car). mono R t.exponents.x u n) (number_null at t e) ∙ mono_null R t.exponents.x n in
        rw (zero_dropped t ts e) (value_without_zeros ts at n ∙ sym (ap (◌+ value R ts at n) z ∙ zero_add R _))
    | no q ↦ rw (nonzero_kept t ts q) (ap (mono R t.exponents.x (number_at R at t) n +◌) (value_without_zeros ts at n))
  ]

  -- made monic, a value that was not 0 is not 0
  pub made_monic_nonzero : (f : Polynomial K) (at : Point R) (n : ℕ) → NonZero f → ¬ (value R f at n ≡ 𝟘) → ¬ (value R (made_monic K f) at n ≡ 𝟘)
  unfolding made_monic
  made_monic_nonzero [] at n h q e = q e
  made_monic_nonzero (t ∷ ts) at n h q e =
      (domain K).nzd _ _ tt tt q (inv_nonzero K t.coefficient h.0) (sym (value_divided t.coefficient (t ∷ ts) at n) ∙ e)
