-- A list that falls: where its keys and coefficients are, and that no term is wrong.
use Rattle.std.specs.Prelude.{◌≡◌, List, [], ◌∷◌, ℕ, zero, suc, ◌≤◌, ◌<◌, length, get_or}
use Rattle.std.proofs.Common.{ap, arith}
use Rattle.std.proofs.Math.Decide.{dec_lt}
use Rattle.std.proofs.Math.ListN.{get_or-eq_default}
use Rattle.poly.specs.Keys.{keys}
use Rattle.poly.specs.Terms.{key_of, coefficient_of}
use Rattle.poly.specs.Lists.{WrongModulo, Falling}
use Rattle.poly.specs.List.Model.{key_before}
use Rattle.poly.specs.Division.Model.{KeysBelow}
use Rattle.poly.specs.List.Check.{wrong_within, term_is_right}

pub falling_key : (p b : ℕ) (ts : List ℕ) → Falling p b ts → (i : ℕ) → i < length ts → key_of (get_or ts i 0) < b
falling_key p b [] h i l = absurd (omega arith)
falling_key p b (t ∷ ts) h zero l = h.0
falling_key p b (t ∷ ts) h (suc i) l =
    let m : key_of t < b = h.0 in
    let k : key_of (get_or ts i 0) < key_of t = falling_key p (key_of t) ts h.3 i (omega arith) in
    omega arith

pub falling_coefficient : (p b : ℕ) (ts : List ℕ) → Falling p b ts → (i : ℕ) → i < length ts → coefficient_of (get_or ts i 0) < p
falling_coefficient p b [] h i l = absurd (omega arith)
falling_coefficient p b (t ∷ ts) h zero l = h.2
falling_coefficient p b (t ∷ ts) h (suc i) l = falling_coefficient p (key_of t) ts h.3 i (omega arith)

pub falling_keys : (p b : ℕ) (ts : List ℕ) → Falling p b ts → KeysBelow 0 b ts
falling_keys p b ts h i l = omega (arith, falling_key p b ts h i l)

pub falling_first : (p b : ℕ) (ts : List ℕ) → Falling p b ts → (i : ℕ) → i < length ts → key_of (get_or ts i 0) ≤ key_of (get_or ts 0 0)
falling_first p b [] h i l = absurd (omega arith)
falling_first p b (t ∷ ts) h zero l = omega arith
falling_first p b (t ∷ ts) h (suc i) l = omega (arith, falling_key p (key_of t) ts h.3 i (omega arith))

falling_next : (p b : ℕ) (ts : List ℕ) → Falling p b ts → (i : ℕ) → suc i < length ts → key_of (get_or ts (suc i) 0) < key_of (get_or ts i 0)
falling_next p b [] h i l = absurd (omega arith)
falling_next p b (t ∷ ts) h zero l = falling_key p (key_of t) ts h.3 zero (omega arith)
falling_next p b (t ∷ ts) h (suc i) l = falling_next p (key_of t) ts h.3 i (omega arith)

-- read from behind, keys rise from 0
pub falling_rises : (p b : ℕ) (ts : List ℕ) → Falling p b ts → (i : ℕ) → i < length ts → key_of (get_or ts (suc i) 0) ≤ key_of (get_or ts i 0)
falling_rises p b ts h i l = elim (dec_lt (suc i) (length ts)) [
  | yes m ↦ omega (arith, falling_next p b ts h i m)
  | no m ↦ let e : get_or ts (suc i) 0 ≡ 0 = get_or-eq_default ts 0 (omega arith) in omega (arith, ap key_of e)
]

pub falling_positive : (p b : ℕ) (ts : List ℕ) → Falling p b ts → (i : ℕ) → i < length ts → 0 < coefficient_of (get_or ts i 0)
falling_positive p b [] h i l = absurd (omega arith)
falling_positive p b (t ∷ ts) h zero l = h.1
falling_positive p b (t ∷ ts) h (suc i) l = falling_positive p (key_of t) ts h.3 i (omega arith)

pub falling_right : (p : ℕ) (ts : List ℕ) → Falling p keys ts → (i : ℕ) → ¬ WrongModulo p ts i
unfolding key_before
falling_right p ts h i w =
    let l = wrong_within p ts i w in
    before i l (λ r k. term_is_right p ts i r k (falling_positive p keys ts h i l) (falling_coefficient p keys ts h i l) w)
  where
    before : (i : ℕ) → i < length ts → (key_before ts i ≤ keys → key_of (get_or ts i 0) < key_before ts i → ⊥) → ⊥
    before zero l right = right (omega arith) (falling_key p keys ts h zero l)
    before (suc i) l right =
        let b = falling_key p keys ts h i (omega arith) in right (omega arith) (falling_next p keys ts h i l)
