-- Modulo a prime `inv` gives the inverse of each element but 0, and an element has one inverse at most.
use Rattle.std.specs.Prelude.{◌≡◌, refl, Bool, true, false, ℕ, zero, suc, ◌/◌, ◌%◌, ◌≤◌, ◌<◌, eqb}
use Rattle.std.proofs.Common.{sym, ap, ◌∙◌, arith, mod-eq_of_lt, mod-lt, eqb-true}
use Rattle.std.proofs.Math.Decide.{ℕ_discrete}
use Rattle.std.proofs.Math.Nat.{zero-mod}
use Rattle.std.proofs.lemmas.Bool.{eqb-false}
use Rattle.algebra.specs.Laws.Ring.{mul_left_comm, mul_neg, neg_unique}
use Rattle.field.specs.Prime.{Prime}
use Rattle.field.specs.Modulus.Prime.{prime_leaves, prime_positive}
use Rattle.field.specs.Fp.{Fp, el, mul, neg, chase, inv}
use Rattle.field.specs.Elements.Fp.{el_val, el_inj, el_self, el_div, val_lt, Fp_mul_assoc, Fp_mul_comm, Fp_mul_one}
use Rattle.field.specs.Residues.{Residues}

-- one turn: with a t = r, also a (- (p / r) t) = p % r
pub inverse_turn : (p : ℕ) → 0 < p → (a t : Fp p) (r : ℕ) → mul a t ≡ el p r → mul a (neg (mul (el p (p / r)) t)) ≡ el p (p % r)
inverse_turn p pos a t r e =
    rw (mul_neg (Residues p pos) a (mul (el p (p / r)) t), mul_left_comm (Residues p pos) a (el p (p / r)) t, e)
    (sym (neg_unique (Residues p pos) (mul (el p (p / r)) (el p r)) (el p (p % r)) (sym (el_div p p r) ∙ el_self p)))

chase_law : {p : ℕ} → Prime p → (a : Fp p) (fuel r : ℕ) → r ≤ fuel → 0 < r → r < p → (t : Fp p) → mul a t ≡ el p r
    → mul a (chase p fuel r t) ≡ el p 1
unfolding chase
chase_law {p} P a zero r f h l t e = absurd (omega arith)
chase_law {p} P a (suc fuel) r f h l t e =
    go (eqb r 1) refl (λ g. chase_law P a fuel (p % r) g)
  where
    go : (b : Bool) → eqb r 1 ≡ b
        → (p % r ≤ fuel → 0 < p % r → p % r < p → (t : Fp p) → mul a t ≡ el p (p % r)
        → mul a (chase p fuel (p % r) t) ≡ el p 1)
        → mul a (elim b [ true ↦ t | false ↦ chase p fuel (p % r) (neg (mul (el p (p / r)) t)) ]) ≡ el p 1
    go true q again = e ∙ ap (λ (n : ℕ). el p n) (eqb-true r 1 q)
    go false q again =
        let n : r ≡ 1 → ⊥ = eqb-false r 1 q in
        let m : p % r < r = mod-lt p h in
        let o : 1 < r = omega arith in
        again (omega arith) (prime_leaves P r o l) (omega arith) (neg (mul (el p (p / r)) t))
        (inverse_turn p (prime_positive P) a t r e)

pub mul_inv : {p : ℕ} → Prime p → (a : Fp p) → ¬ (a ≡ el p 0) → mul a (inv a) ≡ el p 1
unfolding inv
mul_inv {p} P a n =
    chase_law P a a.val a.val (omega arith) (nonzero (ℕ_discrete a.val 0)) (val_lt (prime_positive P) a) (el p 1)
    (Fp_mul_one a ∙ sym (el_val a))
  where
    nonzero : Dec (a.val ≡ 0) → 0 < a.val
    nonzero (yes e) = absurd (n (sym (el_val a) ∙ ap (λ (k : ℕ). el p k) e))
    nonzero (no m) = omega arith

-- an inverse is the inverse, whatever the modulus
pub inverse_unique : {p : ℕ} (a b c : Fp p) → mul a b ≡ el p 1 → mul a c ≡ el p 1 → b ≡ c
inverse_unique {p} a b c e f = cc (Fp_mul_one b, Fp_mul_assoc b a c, Fp_mul_comm b a, Fp_mul_comm (el p 1) c, Fp_mul_one c)

-- 0 is not 1, modulo a number above 1
pub one≢zero : {p : ℕ} → 1 < p → ¬ (el p 1 ≡ el p 0)
one≢zero {p} h e =
    let q : ◌≡◌ {A = ℕ} 1 0 = sym (mod-eq_of_lt h) ∙ el_inj p 1 0 e ∙ zero-mod p in
    omega arith
