-- The model's quotient on eight numbers: with the remainder it makes up what was divided, so by a divisor it is exact.
use Rattle.std.specs.Prelude.{◌≡◌, List, set, replicate}
use Rattle.std.proofs.Math.Path.{refl, ap₂, fun_ext}
use Rattle.std.proofs.Common.{sym, ap, ◌∙◌, get_or-set_same}
use Prim.Native.Nat.{ℕ, zero, suc, ◌+◌, ◌-◌, ◌≤◌, ◌<◌}
use Rattle.std.proofs.Math.Decide.{ℕ_discrete, dec_lt}
use native.Mathlib.Omega.{arith}
use Rattle.std.proofs.Math.ListN.{get_or}
use Rattle.std.proofs.Math.Seq.{get_or-set_other}
use Rattle.algebra.specs.Ring.{CommRing}
use Rattle.algebra.specs.Series.{addS, zeroS, conv}
use Rattle.algebra.specs.Mono.{mono}
use Rattle.algebra.specs.Univariate.{Monic, Poly, Fin}
use Rattle.algebra.specs.Laws.Solver.{◌⊕◌, ◌⊗◌, ◌⊖◌, k0, ◌≗◌, ring2, ring4}
use Rattle.algebra.specs.Laws.Mono.{mono_at, mono_off}
use Rattle.algebra.specs.Laws.Univariate.{ends_fin, less, monic_top}
use Rattle.algebra.specs.Laws.MonicGreatest.{WithRemainder, exact_quotient}
use Rattle.field.specs.Fp.{Fp, el, add}
use Rattle.field.specs.Elements.Fp.{el_below_inj}
use Rattle.field.specs.Prime.{Prime}
use Rattle.field.specs.Modulus.Prime.{prime_positive}
use Rattle.field.specs.Modulo.{Modulo}
use Rattle.field.specs.Loops.Fold.{fold, downwards}
use Rattle.field.specs.Loops.Cells.{past_end}
use Rattle.field.specs.Loops.Places.{Clear, replicate_all}
use Rattle.poly.specs.Coefficients.{Eight, series}
use Rattle.poly.specs.Divides.{DividesX}
use Rattle.poly.specs.Value.ModelLaws.{set_eight, zeros_eight}
use Rattle.poly.specs.Euclid.Model.{reduced, remainder, put_quotient, quotient}
use Rattle.poly.specs.Euclid.Numbers.{Leads, eight_clear, subtract_eight, remainder_clear}
use Rattle.poly.specs.Euclid.Meaning.{clear_ends, subtract_series}

-- how the code goes on
pub put_turn : (p m : ℕ) (g : List ℕ) (k : ℕ) (f q : List ℕ) → 0 < k
    → put_quotient p m g k f q ≡ put_quotient p m g (k - 1) (reduced p m g (k - 1) f) (set q (k - 1) (get_or f (k - 1 + m) 0))
unfolding put_quotient
put_turn p m g k f q l = let e : k ≡ suc (k - 1) = omega arith in ap (λ (n : ℕ). put_quotient p m g n f q) e

pub put_end : (p m : ℕ) (g : List ℕ) (k : ℕ) (f q : List ℕ) → k ≤ 0 → put_quotient p m g k f q ≡ q
unfolding put_quotient
put_end p m g k f q l = let e : k ≡ 0 = omega arith in ap (λ (n : ℕ). put_quotient p m g n f q) e

-- eight zeros have 0 at each place
pub zero_there : (i : ℕ) → ◌≡◌ {A = ℕ} (get_or (replicate 8 0) i 0) 0
zero_there i = replicate_all (λ (n : ℕ). n ≡ 0) 8 i 0 0 refl refl

-- eight numbers are a polynomial
pub eight_fin : (p : ℕ) (P : Prime p) (u : List ℕ) → Eight p u → Fin (Modulo p P) (series p u)
eight_fin p P u h = ends_fin (Modulo p P) 8 _ (clear_ends p (prime_positive P) 8 u (eight_clear p u h))

module _ {p : ℕ} (P : Prime p) (m : ℕ) (g : List ℕ) where
  abbrev ring : CommRing
  ring = (Modulo p P).ring

  quotient_eight : (k : ℕ) (f q : List ℕ) → Eight p f → Eight p q → Eight p (put_quotient p m g k f q)
  unfolding put_quotient
  quotient_eight zero f q hf hq = hq
  quotient_eight (suc k) f q hf hq =
      quotient_eight k (reduced p m g k f) (set q k (get_or f (k + m) 0)) (subtract_eight p (prime_positive P) (get_or f (k + m) 0) k f g hf)
      (set_eight p q k _ hq (hf.below (k + m)))

  -- a number put where 0 stood
  put_series : (k c : ℕ) (q : List ℕ) → Eight p q → k < 8 → get_or q k 0 ≡ 0
      → series p (set q k c) ≡ addS ring (series p q) (mono ring k (el p c))
  put_series k c q h l z = fun_ext λ i. go i (ℕ_discrete i k)
    where
      go : (i : ℕ) → Dec (i ≡ k) → series p (set q k c) i ≡ add (series p q i) (mono ring k (el p c) i)
      go i (yes e) =
          ap (series p (set q k c)) e ∙ ap (el p) (get_or-set_same q k c 0 (omega (arith, h.eight)))
          ∙ sym (ap₂ add (ap (series p q) e ∙ ap (el p) z) (ap (mono ring k (el p c)) e ∙ mono_at ring k (el p c))
          ∙ ring.add_comm _ _ ∙ ring.add_zero _)
      go i (no e) =
          ap (el p) (get_or-set_other q k i c 0 e)
          ∙ sym (ap (add (series p q i)) (mono_off ring k (el p c) i (λ s. e (sym s))) ∙ ring.add_zero _)

  -- what is in q times g, and what is left of f, make up the same at every step
  made_up : (cg : Clear (suc m) g) (k : ℕ) (f q : List ℕ) → Eight p f → Eight p q → k + m ≤ 8 → ((i : ℕ) → i < k → get_or q i 0 ≡ 0)
      → addS ring (conv ring (series p (put_quotient p m g k f q)) (series p g)) (series p (remainder p m g k f))
      ≡ addS ring (conv ring (series p q) (series p g)) (series p f)
  unfolding put_quotient fold downwards less
  made_up cg zero f q hf hq fit low = refl
  made_up cg (suc k) f q hf hq fit low =
      let c = get_or f (k + m) 0 in
      let below : k < 8 = omega arith in
      made_up cg k (reduced p m g k f) (set q k c) (subtract_eight p (prime_positive P) c k f g hf)
      (set_eight p q k c hq (hf.below (k + m)))
      (omega arith) (λ i l. get_or-set_other q k i c 0 (λ e. omega arith) ∙ low i (omega arith))
      ∙ ap₂ (λ (u v : ℕ → Fp p). addS ring (conv ring u (series p g)) v)
      (put_series k c q hq below (low k (omega arith))) (subtract_series P c k (suc m) f g (hf.below (k + m)) hf cg (omega arith))
      ∙ ring4 (Poly (Modulo p P)) (λ q t g f. (q ⊕ t) ⊗ g ⊕ (f ⊖ t ⊗ g) ≗ q ⊗ g ⊕ f) tt (series p q) (mono ring k (el p c)) (series p g)
      (series p f)

  module _ (hg : Eight p g) (monic : Monic ring m (series p g)) where
    monic_leads : Leads m g
    monic_leads = record {
      one = el_below_inj p (get_or g m 0) 1 (hg.below m) P.above monic.leads;
      clear = λ i l. el_below_inj p (get_or g i 0) 0 (hg.below i) (prime_positive P) (monic.ends i l);
    }

    pub monic_fits : m < 8
    monic_fits = elim (dec_lt m 8) [
      | yes l ↦ l
      | no l ↦ absurd (omega (arith, sym monic_leads.one ∙ past_end 8 m g hg.eight (omega arith)))
    ]

    -- by a divisor the quotient is exact
    module _ (f : List ℕ) (hf : Eight p f) where
      pub quotient_is_eight : Eight p (quotient p m g f)
      quotient_is_eight = quotient_eight (8 - m) f (replicate 8 0) hf (zeros_eight p (prime_positive P))

      divided : WithRemainder (Modulo p P) m (series p f) (series p g)
      divided =
          let k = 8 - m in
          let none : series p (replicate 8 0) ≡ zeroS ring = fun_ext λ i. ap (el p) (zero_there i) in
          record {
            quo = series p (quotient p m g f);
            rest = series p (remainder p m g k f);
            quo_fin = eight_fin p P (quotient p m g f) quotient_is_eight;
            eq =
                made_up monic_leads.clear k f (replicate 8 0) hf (zeros_eight p (prime_positive P)) (omega (arith, monic_fits)) (λ i l. zero_there i)
                ∙ ap (λ (u : ℕ → Fp p). addS ring (conv ring u (series p g)) (series p f)) none
                ∙ ring2 (Poly (Modulo p P)) (λ g f. k0 ⊗ g ⊕ f ≗ f) tt (series p g) (series p f);
            ends =
                clear_ends p (prime_positive P) m (remainder p m g k f)
                (remainder_clear p (prime_positive P) m g monic_leads.one monic_leads.clear k f hf
                (λ i l. eight_clear p f hf i (omega (arith, monic_fits))));
          }

      pub quotient_exact : DividesX (Modulo p P) (series p g) (series p f) → conv ring (series p g) (series p (quotient p m g f)) ≡ series p f
      unfolding divided
      quotient_exact h = exact_quotient (Modulo p P) m (series p f) (series p g) (monic_top (Modulo p P) m (series p g) monic) divided h
