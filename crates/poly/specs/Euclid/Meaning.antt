-- What eight numbers mean, `series`, and what the model's steps mean: a subtraction, the remainder, and division by the highest number.
use Rattle.std.specs.Prelude.{◌≡◌, refl, List}
use Rattle.std.proofs.Math.Path.{sym, ap, fun_ext}
use Rattle.std.proofs.Common.{◌∙◌, subst, inl, mul-zero as mul_zeroₙ, arith}
use Prim.Native.Nat.{ℕ, zero, suc, ◌+◌, ◌-◌, ◌*◌, ◌%◌, ◌≤◌, ◌<◌}
use Rattle.std.proofs.Math.Decide.{dec_lt}
use Rattle.std.proofs.Math.Nat.{mod-eq_of_lt, zero-mod}
use Rattle.std.proofs.Math.ListN.{get_or}
use Rattle.algebra.specs.Ring.{CommRing}
use Rattle.algebra.specs.Series.{conv}
use Rattle.algebra.specs.Degree.{Ends}
use Rattle.algebra.specs.GreatestCommon.{GreatestCommon}
use Rattle.algebra.specs.Univariate.{Poly, PolyD, over_lead}
use Rattle.algebra.specs.Mono.{mono}
use Rattle.algebra.specs.Laws.Ring.{neg_zero, mul_zero}
use Rattle.algebra.specs.Laws.Degree.{conv_ends}
use Rattle.algebra.specs.Laws.Mono.{mono_low, mono_high, mono_ends}
use Rattle.algebra.specs.Laws.GreatestCommon.{Associate}
use Rattle.algebra.specs.Laws.Univariate.{less, greatest_less, over_lead_associate}
use Rattle.field.specs.Fp.{Fp, el, add, mul, neg, inv}
use Rattle.field.specs.Elements.Fp.{el_val, el_mod, el_inj, el_below_inj, el_mul, el_nonzero}
use Rattle.field.specs.Prime.{Prime}
use Rattle.field.specs.Elements.Inverse.{mul_inv}
use Rattle.field.specs.Modulus.Prime.{prime_positive}
use Rattle.field.specs.Residues.{Residues}
use Rattle.field.specs.Modulo.{Modulo}
use Rattle.field.specs.Elements.Link.{minus_times_el}
use Rattle.poly.specs.Coefficients.{Eight, series}
use Rattle.field.specs.Loops.Filled.{between}
use Rattle.field.specs.Loops.Fold.{fold, downwards}
use Rattle.field.specs.Loops.Cells.{cells_at, cells_all, past_end, between_in, between_out}
use Rattle.poly.specs.Euclid.Model.{size, scaled, monic, less_at, subtract, remainder}
use Rattle.field.specs.Loops.Places.{Clear}
use Rattle.poly.specs.Euclid.Numbers.{Leads, eight_clear, size_clear, size_lead, scaled_eight, subtract_eight}

pub clear_ends : (p : ℕ) (h : 0 < p) (n : ℕ) (f : List ℕ) → Clear n f → Ends (Residues p h) n (series p f)
clear_ends p h n f c i l = ap (λ (x : ℕ). el p x) (c i l)

-- eight numbers are determined by their polynomial
pub series_injective : (p : ℕ) (f g : List ℕ) → Eight p f → Eight p g → series p f ≡ series p g → (i : ℕ) → get_or f i 0 ≡ get_or g i 0
series_injective p f g hf hg e i = el_below_inj p _ _ (hf.below i) (hg.below i) (ap (λ (u : ℕ → Fp p). u i) e)

module _ {p : ℕ} (P : Prime p) where
  abbrev ring : CommRing
  ring = Residues p (prime_positive P)

  -- u is a greatest common divisor of a and b, polynomials in x modulo p
  abbrev pub Greatest : (ℕ → Fp p) → (ℕ → Fp p) → (ℕ → Fp p) → Type 0
  Greatest a b u = GreatestCommon (Poly (Modulo p P)) (PolyD (Modulo p P)) a b u

  -- a step of the model is a step of the mathematics
  pub subtract_series : (c k n : ℕ) (f g : List ℕ) → c < p → Eight p f → Clear n g → k + n ≤ 8
      → series p (subtract p c k f g) ≡ less (Modulo p P) k (el p c) (series p f) (series p g)
  unfolding less subtract
  subtract_series c k n f g l h cg fit =
      fun_ext λ i.
      cells_all (λ x. el p x ≡ less (Modulo p P) k (el p c) (series p f) (series p g) i) (between k 8 (less_at p c k f g) f) 8 i (below i)
      (λ b.
      ap (el p) (sym (past_end 8 i f h.eight b))
      ∙ none i
      (conv_ends ring (suc k) n (mono ring k (el p c)) (series p g) (mono_ends ring k (el p c)) (clear_ends p (prime_positive P) n g cg) i
      (omega arith)))
    where
      none : (i : ℕ) → conv ring (mono ring k (el p c)) (series p g) i ≡ el p 0
          → series p f i ≡ less (Modulo p P) k (el p c) (series p f) (series p g) i
      none i z = sym (ap (λ (u : Fp p). add (series p f i) (neg u)) z ∙ ap (add (series p f i)) (neg_zero ring) ∙ ring.add_zero _)

      below : (i : ℕ) → i < 8 → el p (between k 8 (less_at p c k f g) f i) ≡ less (Modulo p P) k (el p c) (series p f) (series p g) i
      below i b =
          elim (dec_lt i k) [
            | yes a ↦ ap (el p) (between_out k 8 (less_at p c k f g) f i (inl a)) ∙ none i (mono_low ring k (el p c) (series p g) i a)
            | no a ↦
                let e : k + (i - k) ≡ i = omega arith in
                ap (el p) (between_in k 8 (less_at p c k f g) f i (omega arith) b)
                ∙ minus_times_el p (get_or f i 0) c (get_or g (i - k) 0) (prime_positive P) (omega arith)
                ∙ ap (λ (u : Fp p). add (series p f i) (neg u))
                (sym (mono_high ring k (el p c) (series p g) (i - k)) ∙ ap (conv ring (mono ring k (el p c)) (series p g)) e)
          ]

  -- so the common divisors of f and g are those of the remainder and g
  pub remainder_greatest : (m : ℕ) (g : List ℕ) → Clear (suc m) g → (k : ℕ) (f : List ℕ) → Eight p f → k + m ≤ 8 → (u : ℕ → Fp p)
      → Greatest (series p (remainder p m g k f)) (series p g) u → Greatest (series p f) (series p g) u
  unfolding fold downwards
  remainder_greatest m g cg zero f h fit u s = s
  remainder_greatest m g cg (suc k) f h fit u s =
      let c = get_or f (k + m) 0 in
      greatest_less (Modulo p P) k (el p c) (series p f) (series p g) u
      (subst (λ (v : ℕ → Fp p). Greatest v (series p g) u)
      (subtract_series c k (suc m) f g (h.below (k + m)) h cg (omega arith))
      (remainder_greatest m g cg k (subtract p c k f g) (subtract_eight p (prime_positive P) c k f g h) (omega arith) u s))

  pub monic_eight : (n : ℕ) (f : List ℕ) → Eight p (monic p n f)
  unfolding monic
  monic_eight n f = scaled_eight p (prime_positive P) (inv (el p (get_or f n 0))).val f

  -- all divided by the highest number that is not 0, which stands below the size
  module _ (f : List ℕ) (h : Eight p f) (q : ¬ (size f ≡ 0)) where
    abbrev n : ℕ
    n = size f - 1

    nonzero : ¬ (get_or f n 0 ≡ 0)
    nonzero = size_lead 8 f (omega arith)

    clear : Clear (suc n) f
    clear i l = size_clear 8 f (eight_clear p f h) i (omega arith)

    abbrev inverse : ℕ
    inverse = (inv (el p (get_or f n 0))).val

    abbrev times : ℕ → ℕ
    times i = (inverse * get_or f i 0) % p

    times_el : (i : ℕ) → el p (inverse * get_or f i 0) ≡ mul (inv (el p (get_or f n 0))) (el p (get_or f i 0))
    times_el i =
        el_mul p inverse (get_or f i 0) ∙ ap (λ (u : Fp p). mul u (el p (get_or f i 0))) (el_val (inv (el p (get_or f n 0))))

    monic_series : series p (monic p n f) ≡ over_lead (Modulo p P) n (series p f)
    unfolding monic scaled over_lead
    monic_series =
        fun_ext λ i.
        cells_all (λ x. el p x ≡ mul (inv (el p (get_or f n 0))) (el p (get_or f i 0))) times 8 i
        (λ b. el_mod p (inverse * get_or f i 0) ∙ times_el i)
        (λ b. sym (ap (λ (x : ℕ). mul (inv (el p (get_or f n 0))) (el p x)) (past_end 8 i f h.eight b) ∙ mul_zero ring _))

    pub highest_leads : Leads (size f - 1) (monic p (size f - 1) f)
    unfolding monic scaled
    highest_leads =
        record {
          one =
              cells_at times 8 n (elim (dec_lt n 8) [ yes l ↦ l | no l ↦ absurd (nonzero (past_end 8 n f h.eight (omega arith))) ])
              ∙ el_inj p (inverse * get_or f n 0) 1
              (times_el n ∙ ring.mul_comm _ _ ∙ mul_inv P (el p (get_or f n 0)) (el_nonzero p (get_or f n 0) (h.below n) nonzero))
              ∙ mod-eq_of_lt P.above;
          clear =
              λ i l.
              cells_all (λ x. x ≡ 0) times 8 i
              (λ b. ap (λ (x : ℕ). (inverse * x) % p) (clear i l) ∙ ap (λ (x : ℕ). x % p) (mul_zeroₙ inverse) ∙ zero-mod p)
              (λ b. refl);
        }

    -- made monic, a polynomial has the divisors that it had
    pub highest_associate : Associate (Poly (Modulo p P)) (PolyD (Modulo p P)) (series p (monic p (size f - 1) f)) (series p f)
    highest_associate =
        let a =
        over_lead_associate (Modulo p P) n (series p f)
        (record { nonzero = el_nonzero p (get_or f n 0) (h.below n) nonzero; ends = clear_ends p (prime_positive P) (suc n) f clear }) in
        subst (λ (u : ℕ → Fp p). Associate (Poly (Modulo p P)) (PolyD (Modulo p P)) u (series p f)) (sym monic_series)
        (record { to = a.from; from = a.to })
