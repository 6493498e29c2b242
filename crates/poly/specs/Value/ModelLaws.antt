-- How the model of the value goes on from term to term, on eight numbers below p.
use Rattle.std.specs.Prelude.{◌≡◌, refl, length, drop, replicate}
use Rattle.std.proofs.Math.Path.{sym, ap}
use Rattle.std.proofs.Common.{◌∙◌, mod-lt, mul_assoc, mul_comm, length-set, drop_of_length-le, drop-cons}
use mathlib.Core.List.{List, [], ◌∷◌}
use Prim.Native.Nat.{ℕ, suc, ◌+◌, ◌-◌, ◌*◌, ◌%◌, ◌^◌, ◌≤◌, ◌<◌}
use Rattle.std.proofs.Math.Nat.{add-mod-mod}
use native.Mathlib.Omega.{arith}
use Rattle.std.proofs.Math.ListN.{get_or, set}
use Rattle.field.specs.Elements.Remainder.{mod_mul_mod, mul_mod_mod}
use Rattle.poly.specs.Coefficients.{Eight}
use Rattle.poly.specs.Keys.{exponents}
use Rattle.poly.specs.Terms.{key_of}
use Rattle.field.specs.Loops.Places.{set_all, replicate_all}
use Rattle.poly.specs.Value.Monomial.{head, monomial}
use Rattle.poly.specs.Value.Model.{plus_term, with_term, value_of}

pub set_eight : (p : ℕ) (r : List ℕ) (x v : ℕ) → Eight p r → v < p → Eight p (set r x v)
set_eight p r x v h l = record { eight = length-set r x v ∙ h.eight; below = λ i. set_all (λ n. n < p) r x i v 0 l (h.below i) }

pub zeros_eight : (p : ℕ) → 0 < p → Eight p (replicate 8 0)
zeros_eight p h = record { eight = refl; below = λ i. replicate_all (λ n. n < p) 8 i 0 0 h h }

module _ (p : ℕ) (point : List ℕ) where
  pub value_of_eight : 0 < p → (ts : List ℕ) → Eight p (value_of p point ts)
  unfolding value_of with_term plus_term
  value_of_eight pos [] = zeros_eight p pos
  value_of_eight pos (t ∷ ts) = set_eight p (value_of p point ts) _ _ (value_of_eight pos ts) (mod-lt _ pos)

  -- with nothing left there is no value, and a term before what is left is added
  pub value_of_none : (ts : List ℕ) (i : ℕ) → length ts ≤ i → replicate 8 0 ≡ value_of p point (drop i ts)
  unfolding value_of
  value_of_none ts i l = sym (ap (value_of p point) (drop_of_length-le ts l))

  value_of_more : (ts : List ℕ) (i : ℕ) → i < length ts
      → value_of p point (drop i ts) ≡ with_term p point (get_or ts i 0) (value_of p point (drop (suc i) ts))
  unfolding value_of
  value_of_more ts i l = ap (value_of p point) (drop-cons ts i 0 l)

  -- the same as the code stores it, where the sum so far is the value of what is left
  pub value_of_stored : (ts : List ℕ) (i : ℕ) → 0 < i → i ≤ length ts → {r : List ℕ} → r ≡ value_of p point (drop i ts)
      → {x v : ℕ} → let t = get_or ts (i - 1) 0 in x ≡ (exponents (key_of t)).x → v ≡ plus_term p point t (get_or r x 0)
      → set r x v ≡ value_of p point (drop (i - 1) ts)
  unfolding with_term
  value_of_stored ts i pos l {r} er {x} {v} ex ev =
      let t = get_or ts (i - 1) 0 in
      let e : i ≡ suc (i - 1) = omega arith in
      ap (set r x) ev ∙ ap (λ (k : ℕ). set r k (plus_term p point t (get_or r k 0))) ex
      ∙ ap (with_term p point t) (er ∙ ap (λ (k : ℕ). value_of p point (drop k ts)) e)
      ∙ sym (value_of_more ts (i - 1) (omega arith))

-- the coefficient times the power of w, and y^b z^c, are added as the term's value
pub term_in_parts : (p c d y z w k r : ℕ) → d ≡ (exponents k).w
    → (r + (c * w ^ d) % p * (head y z k % p)) % p ≡ (r + c * monomial y z w k) % p
term_in_parts p c d y z w k r e =
    let h = head y z k in
    sym (add-mod-mod r _ p)
    ∙ ap (λ (n : ℕ). (r + n) % p)
    (mul_mod_mod ((c * w ^ d) % p) h p ∙ mod_mul_mod (c * w ^ d) h p
    ∙ ap (λ (n : ℕ). n % p) (mul_assoc c (w ^ d) h ∙ ap (λ (n : ℕ). c * n) (mul_comm (w ^ d) h)))
    ∙ add-mod-mod r _ p ∙ ap (λ (n : ℕ). (r + c * (h * w ^ n)) % p) e
