-- The greatest exponents of a list of terms, computed, are those of its polynomial.
use Rattle.std.specs.Prelude.{◌≡◌, ℕ, suc, ◌+◌, ◌≤◌, ◌<◌}
use Rattle.std.proofs.Math.Path.{refl, ap, ap₂}
use Rattle.std.proofs.Common.{sym, ◌∙◌, subst, arith}
use mathlib.Core.List.{List, [], ◌∷◌}
use Rattle.std.proofs.Math.Decide.{dec_le}
use Rattle.algebra.specs.Ring.{CommRing}
use Rattle.algebra.specs.Four.{coef}
use Rattle.algebra.specs.Monomial.{polynomial}
use Rattle.algebra.specs.GreatestExponent.{Variable, in_x, in_y, in_z, in_w, exponent, Within, GreatestExponent}
use Rattle.algebra.specs.Division.{Most, Sizes}
use Rattle.algebra.specs.Laws.Monomial.{monomial_off}
use Rattle.field.specs.Fp.{el}
use Rattle.field.specs.Prime.{Prime}
use Rattle.field.specs.Modulo.{Modulo}
use Rattle.poly.specs.Keys.{exponents, keys}
use Rattle.poly.specs.Terms.{key_of, coefficient_of, poly}
use Rattle.poly.specs.Key.Laws.{exponents_of_key}
use Rattle.poly.specs.Lists.{Falling}
use Rattle.poly.specs.Key.Terms.{poly_rest, poly_lead}
use Rattle.poly.specs.Division.Model.{KeysBelow, most, most_of, most_key}

exponent_small : (v : Variable) (k : ℕ) → k < keys → exponent v (exponents k) < 8
exponent_small in_x k h = omega arith
exponent_small in_y k h = omega arith
exponent_small in_z k h = omega arith
exponent_small in_w k h = omega arith

pub most_small : (v : Variable) (ts : List ℕ) → KeysBelow 0 keys ts → most v ts < 8
most_small v [] h = omega arith
most_small v (t ∷ ts) h =
    let l : key_of t + 0 < keys = h 0 (omega arith) in
    let a = exponent_small v (key_of t) (omega arith) in
    let r = most_small v ts (λ i m. h (suc i) (omega arith)) in
    omega arith

pub exponent_most : (v : Variable) (ts : List ℕ) → exponent v (most_of ts) ≡ most v ts
exponent_most in_x ts = refl
exponent_most in_y ts = refl
exponent_most in_z ts = refl
exponent_most in_w ts = refl

-- the key of the greatest exponents has them
pub most_exponents : (ts : List ℕ) → KeysBelow 0 keys ts → exponents (most_key ts) ≡ most_of ts
most_exponents ts h =
    exponents_of_key (most_of ts) (record { y = most_small in_y ts h; z = most_small in_z ts h; w = most_small in_w ts h })

module _ (p : ℕ) (P : Prime p) where
  abbrev R : CommRing
  R = (Modulo p P).ring

  within : (v : Variable) (ts : List ℕ) → Within R v (most v ts) (poly p P ts)
  unfolding polynomial
  within v [] e h = refl
  within v (t ∷ ts) e h =
      ap₂ R.add (monomial_off R (exponents (key_of t)) e (el p (coefficient_of t)) (λ q. let w = ap (exponent v) q in omega arith))
      (within v ts e (omega arith))
      ∙ R.add_zero _

  -- a key of the list where the greatest exponent is reached
  record Reached (v : Variable) (b : ℕ) (ts : List ℕ) : Type 0 where
    key : ℕ
    below : key < b
    is_most : exponent v (exponents key) ≡ most v ts
    stands : ¬ (coef R (poly p P ts) (exponents key) ≡ el p 0)

  reached : (v : Variable) (t : ℕ) (ts : List ℕ) (b : ℕ) → Falling p b (t ∷ ts) → Reached v b (t ∷ ts)
  reached v t [] b h =
      record { key = key_of t; below = h.0; is_most = omega arith; stands = (poly_lead p P t [] b h).stands }
  reached v t (u ∷ us) b h =
      go (dec_le (most v (u ∷ us)) (exponent v (exponents (key_of t)))) (reached v u us (key_of t) h.3)
    where
      go : Dec (most v (u ∷ us) ≤ exponent v (exponents (key_of t))) → Reached v (key_of t) (u ∷ us) → Reached v b (t ∷ u ∷ us)
      go (yes l) r =
          record { key = key_of t; below = h.0; is_most = omega arith; stands = (poly_lead p P t (u ∷ us) b h).stands }
      go (no n) r = record {
        key = r.key;
        below = let a = h.0 in let c = r.below in omega arith;
        is_most = let a = r.is_most in omega arith;
        stands = λ e. r.stands (sym (poly_rest p P t (u ∷ us) r.key (λ q. let c = r.below in omega arith)) ∙ e);
      }

  pub poly_most : (t : ℕ) (ts : List ℕ) (b : ℕ) → Falling p b (t ∷ ts) → Most R (most_of (t ∷ ts)) (poly p P (t ∷ ts))
  poly_most t ts b h v =
      let r = reached v t ts b h in
      subst (λ (n : ℕ). GreatestExponent R v n (poly p P (t ∷ ts))) (sym (exponent_most v (t ∷ ts)))
      (record { within = within v (t ∷ ts); place = exponents r.key; reached = r.is_most; stands = r.stands })

  -- what the rule of division needs to know of two lists
  abbrev pub sizes : (t : ℕ) (ts : List ℕ) (u : ℕ) (us : List ℕ) → Falling p keys (t ∷ ts) → Falling p keys (u ∷ us)
      → Sizes (Modulo p P).ring (poly p P (t ∷ ts)) (poly p P (u ∷ us))
  sizes t ts u us h k = record {
    lead = exponents (key_of u);
    leads = poly_lead p P u us keys k;
    most_f = most_of (t ∷ ts);
    is_most_f = poly_most t ts keys h;
    most_g = most_of (u ∷ us);
    is_most_g = poly_most u us keys k;
  }
