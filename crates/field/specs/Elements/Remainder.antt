-- A factor may be reduced first; and remainders of sums and differences that need no division.
use Rattle.std.specs.Prelude.{◌≡◌, ℕ, ◌+◌, ◌-◌, ◌*◌, ◌/◌, ◌%◌, ◌≤◌, ◌<◌}
use Rattle.std.proofs.Common.{sym, ap, ◌∙◌, arith, add-mul, mul_assoc, mul_comm, mod-eq_of_lt}
use Rattle.std.proofs.Math.Nat.{div-add-mod, mul-add-mod_self_left, mod-eq-sub-mod}

pub mod_mul_mod : (a b p : ℕ) → (a % p * b) % p ≡ (a * b) % p
mod_mul_mod a b p =
    sym
    (ap (λ (n : ℕ). (n * b) % p) (sym (div-add-mod a p)) ∙ ap (λ (n : ℕ). n % p) (add-mul (p * (a / p)) (a % p) b)
    ∙ ap (λ (n : ℕ). (n + a % p * b) % p) (mul_assoc p (a / p) b)
    ∙ mul-add-mod_self_left p (a / p * b) (a % p * b))

pub mul_mod_mod : (a b p : ℕ) → (a * (b % p)) % p ≡ (a * b) % p
mul_mod_mod a b p = rw (mul_comm a (b % p), mod_mul_mod b a p, mul_comm b a)

-- below twice the modulus a remainder is the number, or the number less the modulus
pub once_reduced : (n p : ℕ) → p ≤ n → n < p + p → n - p ≡ n % p
once_reduced n p l h = let m : n - p < p = omega arith in sym (mod-eq-sub-mod l ∙ mod-eq_of_lt m)

-- the modulus less a number added: the remainder is the difference, or the modulus less the difference the other way
module _ (a b p : ℕ) (below : a < p) (other : b < p) where
  pub difference_up : b ≤ a → a - b ≡ (a + (p - b)) % p
  difference_up l =
      let e : a - b ≡ a + (p - b) - p = omega arith in e ∙ once_reduced (a + (p - b)) p (omega arith) (omega arith)

  pub difference_down : a < b → p - (b - a) ≡ (a + (p - b)) % p
  difference_down l = let e : p - (b - a) ≡ a + (p - b) = omega arith in let m : a + (p - b) < p = omega arith in e ∙ sym (mod-eq_of_lt m)
