-- The model of Euclid's algorithm gives the monic greatest common divisor of what the numbers mean.
use Rattle.std.specs.Prelude.{◌≡◌}
use Rattle.std.proofs.Common.{sym}
use Rattle.std.proofs.Math.Path.{subst, fun_ext}
use mathlib.Core.List.{List}
use Prim.Native.Nat.{ℕ, zero, suc, ◌-◌, ◌≤◌, ◌<◌}
use Rattle.std.proofs.Math.Decide.{ℕ_discrete}
use native.Mathlib.Omega.{arith}
use Rattle.algebra.specs.Univariate.{Poly, PolyD}
use Rattle.algebra.specs.Laws.GreatestCommon.{greatest_swap, greatest_zero, greatest_second}
use Rattle.field.specs.Fp.{Fp}
use Rattle.field.specs.Prime.{Prime}
use Rattle.field.specs.Modulus.Prime.{prime_positive}
use Rattle.field.specs.Modulo.{Modulo}
use Rattle.poly.specs.Coefficients.{Eight, series}
use Rattle.poly.specs.Euclid.Model.{size, euclid, gcd}
use Rattle.poly.specs.Euclid.Numbers.{Leads, eight_clear, size_clear, size_le, leads_size}
use Rattle.poly.specs.Euclid.Meaning.{clear_ends, Greatest, remainder_greatest, monic_eight, highest_leads, highest_associate}
use Rattle.poly.specs.Euclid.Turns.{turned, rest, euclid_next, euclid_end, turn_size, turn_rest, turn_smaller}

-- u is the monic greatest common divisor of a and b, and of degree d
pub record IsGcd {p : ℕ} (P : Prime p) (a b : ℕ → Fp p) (u : List ℕ) (d : ℕ) : Type 0 where
  pub eight : Eight p u
  pub monic : Leads d u
  pub greatest : Greatest P a b (series p u)

module _ {p : ℕ} (P : Prime p) where
  -- u is the monic greatest common divisor of what f and g mean
  abbrev Found : List ℕ → List ℕ → List ℕ → Type 0
  Found f g u = IsGcd P (series p f) (series p g) u (size u - 1)

  alone : (f g : List ℕ) → Eight p f → Eight p g → Leads (size f - 1) f → size g ≡ 0 → Found f g f
  alone f g hf hg lead e = record {
    eight = hf;
    monic = lead;
    greatest =
        subst (λ (u : ℕ → Fp p). Greatest P (series p f) u (series p f))
        (sym (fun_ext (λ i. clear_ends p (prime_positive P) (size g) g (size_clear 8 g (eight_clear p g hg)) i (omega arith))))
        (greatest_zero (Poly (Modulo p P)) (PolyD (Modulo p P)) (series p f));
  }

  -- the common divisors of f and g are those of what a turn makes of them
  turn_greatest : (f g : List ℕ) → Eight p f → Eight p g → ¬ (size g ≡ 0) → (u : ℕ → Fp p)
      → Greatest P (series p (turned p (size g) g)) (series p (rest p (size g) f g)) u → Greatest P (series p f) (series p g) u
  turn_greatest f g hf hg q u s =
      let m = size g - 1 in
      let h = turned p (size g) g in
      greatest_second (Poly (Modulo p P)) (PolyD (Modulo p P)) (series p f) (series p h) (series p g) u
      (highest_associate P g hg q)
      (remainder_greatest P m h (highest_leads P g hg q).clear (8 - m) f hf (omega (arith, size_le 8 g)) u
      (greatest_swap (Poly (Modulo p P)) (PolyD (Modulo p P)) (series p h) (series p (rest p (size g) f g)) u s))

  -- where g is 0, f has to be monic; a turn makes it so
  euclid_finds : (fuel : ℕ) (f g : List ℕ) → size g ≤ fuel → Eight p f → Eight p g → (size g ≡ 0 → Leads (size f - 1) f)
      → Found f g (euclid p fuel f g)
  unfolding euclid
  euclid_finds zero f g l hf hg lead = let e : size g ≡ 0 = omega arith in alone f g hf hg (lead e) e
  euclid_finds (suc fuel) f g l hf hg lead = go (ℕ_discrete (size g) 0) (λ f g. euclid_finds fuel f g)
    where
      go : Dec (size g ≡ 0)
          → ((f g : List ℕ) → size g ≤ fuel → Eight p f → Eight p g → (size g ≡ 0 → Leads (size f - 1) f) → Found f g (euclid p fuel f g))
          → Found f g (euclid p (suc fuel) f g)
      go (yes e) again = subst (Found f g) (sym (euclid_end p (suc fuel) f g e)) (alone f g hf hg (lead e) e)
      go (no q) again =
          let h = turned p (size g) g in
          let w =
          again h (rest p (size g) f g) (omega (arith, turn_smaller P f g hf hg q)) (monic_eight P (size g - 1) g) (turn_rest P f g hf hg q)
          (λ _. subst (λ (n : ℕ). Leads (n - 1) h) (sym (turn_size P g hg q)) (highest_leads P g hg q)) in
          subst (Found f g) (sym (euclid_next p fuel f g q))
          (record { eight = w.eight; monic = w.monic; greatest = turn_greatest f g hf hg q _ w.greatest })

  module _ (a b : List ℕ) (ha : Eight p a) (hb : Eight p b) (some : 0 < size b) where
    -- the model's result means the monic greatest common divisor of the two meanings
    pub gcd_is_gcd : IsGcd P (series p a) (series p b) (gcd p a b) (size (gcd p a b) - 1)
    unfolding gcd
    gcd_is_gcd = euclid_finds (size b) a b (omega arith) ha hb (λ e. absurd (omega arith))

    pub gcd_nonzero : 0 < size (gcd p a b)
    gcd_nonzero =
        let s = leads_size p (size (gcd p a b) - 1) (gcd p a b) gcd_is_gcd.eight gcd_is_gcd.monic in omega arith
