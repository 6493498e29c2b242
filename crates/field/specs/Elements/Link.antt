-- What the code's numbers are modulo p: one law for each operation, from the contracts' plain numbers to `Fp p`.
use Rattle.std.specs.Prelude.{◌≡◌, ℕ, ◌+◌, ◌-◌, ◌*◌, ◌%◌, ◌≤◌, ◌<◌}
use Rattle.std.proofs.Common.{sym, ap, ◌∙◌, arith}
use Rattle.std.proofs.Math.Nat.{mod-mod}
use Rattle.std.proofs.Math.Decide.{ℕ_discrete}
use Rattle.algebra.specs.Laws.Ring.{zero_mul, neg_mul, neg_unique}
use Rattle.algebra.specs.Laws.Field.{no_zero_divisors}
use Rattle.field.specs.Prime.{Prime}
use Rattle.field.specs.Modulus.Prime.{prime_positive}
use Rattle.field.specs.Fp.{Fp, el, add, mul, neg, inv}
use Rattle.field.specs.Elements.Fp.{el_mod, el_add, el_mul, el_cong, el_self, el_nonzero, val_el}
use Rattle.field.specs.Residues.{Residues}
use Rattle.field.specs.Modulo.{Modulo}
use Rattle.field.specs.Elements.Inverse.{mul_inv, inverse_unique, one≢zero}
use Rattle.field.specs.Contract.{Inverse}
use Rattle.field.specs.declared.elements.Element.{Element}

pub sum_el : (p a b : ℕ) → el p ((a + b) % p) ≡ add (el p a) (el p b)
sum_el p a b = el_mod p (a + b) ∙ el_add p a b

-- of `product` and of `times`
pub product_el : (p a b : ℕ) → el p ((a * b) % p) ≡ mul (el p a) (el p b)
product_el p a b = el_mod p (a * b) ∙ el_mul p a b

-- a product of numbers that are not 0 is not 0
pub product_positive : (p : ℕ) → Prime p → (a b : ℕ) → a < p → ¬ (a ≡ 0) → b < p → ¬ (b ≡ 0) → 0 < (a * b) % p
product_positive p P a b la na lb nb = elim (ℕ_discrete ((a * b) % p) 0) [
  | yes e ↦
      absurd (no_zero_divisors (Modulo p P) (el p a) (el p b) (el_nonzero p a la na) (el_nonzero p b lb nb) (sym (product_el p a b) ∙ ap (el p) e))
  | no n ↦ omega arith
]

pub plus_times_el : (p r a b : ℕ) → el p ((r + a * b) % p) ≡ add (el p r) (mul (el p a) (el p b))
plus_times_el p r a b = sum_el p r (a * b) ∙ ap (add (el p r)) (el_mul p a b)

-- p less a number is its opposite
pub opposite_el : (p a : ℕ) → 0 < p → a ≤ p → el p (p - a) ≡ neg (el p a)
opposite_el p a pos h =
    let e : a + (p - a) ≡ p = omega arith in
    neg_unique (Residues p pos) (el p a) (el p (p - a)) (sym (el_add p a (p - a)) ∙ ap (λ (n : ℕ). el p n) e ∙ el_self p)

pub difference_el : (p a b : ℕ) → 0 < p → b ≤ p → el p ((a + (p - b)) % p) ≡ add (el p a) (neg (el p b))
difference_el p a b pos h = sum_el p a (p - b) ∙ ap (add (el p a)) (opposite_el p b pos h)

-- r - a b, as `plus_times` works it with p less a
pub minus_times_el : (p r a b : ℕ) → 0 < p → a ≤ p
    → el p ((r + (p - a) * b) % p) ≡ add (el p r) (neg (mul (el p a) (el p b)))
minus_times_el p r a b pos h =
    rw (plus_times_el p r (p - a) b, opposite_el p a pos h) (ap (add (el p r)) (neg_mul (Residues p pos) (el p a) (el p b)))

-- a number whose product with another is 1
pub inverse_mul : (p a x : ℕ) → (a * x) % p ≡ 1 → mul (el p a) (el p x) ≡ el p 1
inverse_mul p a x e = sym (el_mul p a x) ∙ el_cong p (a * x) 1 (sym (mod-mod (a * x) p) ∙ ap (λ (n : ℕ). n % p) e)

module _ {p : ℕ} (P : Prime p) (a x : ℕ) (e : (a * x) % p ≡ 1) where
  pub inverse_nonzero : ¬ (el p a ≡ el p 0)
  inverse_nonzero z =
      one≢zero P.above
      (sym (inverse_mul p a x e) ∙ ap (λ (y : Fp p). mul y (el p x)) z ∙ zero_mul (Residues p (prime_positive P)) (el p x))

  -- it is the inverse of the field
  inverse_el : el p x ≡ inv (el p a)
  inverse_el = inverse_unique (el p a) (el p x) (inv (el p a)) (inverse_mul p a x e) (mul_inv P (el p a) inverse_nonzero)

-- what the contract of `inverse` determines is the inverse of the field
pub inverse_val : (a r : Element) → Prime a.modulus → Inverse a r → r.value ≡ (inv (el a.modulus a.value)).val
inverse_val a r P i =
    sym (val_el a.modulus i.below)
    ∙ ap (λ (x : Fp a.modulus). x.val) (inverse_el P a.value r.value i.product_one)
