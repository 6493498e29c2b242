-- Powers modulo p: what is raised may be reduced first, a power goes by its bits or one factor at a time, and what powers mean in the field.
use Rattle.std.specs.Prelude.{◌≡◌, refl, ℕ, zero, suc, ◌+◌, ◌*◌, ◌/◌, ◌%◌, ◌^◌, ◌≤◌, ◌<◌}
use Rattle.std.proofs.Common.{sym, ap, ap₂, ◌∙◌, subst, mul_assoc, one-mul, mul-one, mod-eq_of_lt, pow-suc, arith, pow-add}
use Rattle.std.proofs.Math.Nat.{pow-zero}
use Rattle.algebra.specs.Ring.{pow}
use Rattle.field.specs.declared.elements.Element.{Element}
use Rattle.field.specs.Contract.{element}
use Rattle.field.specs.Fp.{Fp, el, mul}
use Rattle.field.specs.Elements.Fp.{el_mul}
use Rattle.field.specs.Elements.Remainder.{mod_mul_mod, mul_mod_mod}
use Rattle.field.specs.Residues.{Residues}
use Rattle.poly.specs.Keys.{exponents}
use Rattle.poly.specs.Value.Monomial.{head, monomial, times_power_of, Factors, Rises}

-- a number below the modulus may be multiplied on
pub factors_again : {p v : ℕ} {r y : Element} → r ≡ element p v → v < p → y.modulus ≡ p → Factors r y
factors_again e l same = record {
  below = subst (λ (u : Element). u.value < u.modulus) (sym e) l;
  same = same ∙ sym (ap (λ (u : Element). u.modulus) e);
}

-- a power, and y^b z^c, where the operands are given by their numbers
module _ {p v u : ℕ} {a y : Element} (ea : a ≡ element p v) (ey : y ≡ element p u) where
  pub times_power_is : {r : Element} (n : ℕ) → r ≡ times_power_of a y n → r ≡ element p ((v * u ^ n) % p)
  times_power_is n e = e ∙ (λ i. times_power_of (ea i) (ey i) n)

  pub rises : {yz : Element} (before k : ℕ) → 1 < p → yz ≡ element p (head v u before % p) → before ≤ k → Rises yz a y before k
  rises before k above e l = rw (ea, ey) (record { above = above; same = refl; number = e; not_greater = l })

  pub risen_is : {r : Element} (k : ℕ) → r ≡ element a.modulus (head a.value y.value k % a.modulus) → r ≡ element p (head v u k % p)
  risen_is k e = e ∙ (λ i. element (ea i).modulus (head (ea i).value (ey i).value k % (ea i).modulus))

-- the power 0 and 1
pub power_none : (a y p : ℕ) → a < p → a ≡ (a * y ^ 0) % p
power_none a y p l = sym (ap (λ (n : ℕ). (a * n) % p) (pow-zero y) ∙ ap (λ (n : ℕ). n % p) (mul-one a) ∙ mod-eq_of_lt l)

pow_one : (y : ℕ) → y ^ 1 ≡ y
pow_one y = pow-suc y 0 ∙ ap (λ (n : ℕ). n * y) (pow-zero y) ∙ one-mul y

pub power_once : (a y p : ℕ) → (a * y) % p ≡ (a * y ^ 1) % p
power_once a y p = ap (λ (n : ℕ). (a * n) % p) (sym (pow_one y))

module _ (p : ℕ) where
  -- one more factor
  pub power_more : (a y n : ℕ) → ((a * y ^ n) % p * y) % p ≡ (a * y ^ suc n) % p
  power_more a y n =
      mod_mul_mod (a * y ^ n) y p ∙ ap (λ (m : ℕ). m % p) (mul_assoc a (y ^ n) y) ∙ ap (λ (m : ℕ). (a * m) % p) (sym (pow-suc y n))

  -- a power of what is reduced
  mod_power : (a y n : ℕ) → (a * (y % p) ^ n) % p ≡ (a * y ^ n) % p
  mod_power a y zero = ap (λ (m : ℕ). (a * m) % p) (pow-zero (y % p) ∙ sym (pow-zero y))
  mod_power a y (suc n) =
      sym (power_more a (y % p) n) ∙ mul_mod_mod ((a * (y % p) ^ n) % p) y p ∙ ap (λ (m : ℕ). (m * y) % p) (mod_power a y n) ∙ power_more a y n

  -- both reduced
  pub power_reduced : (a y n : ℕ) → (a % p * (y % p) ^ n) % p ≡ (a * y ^ n) % p
  power_reduced a y n = mod_power (a % p) y n ∙ mod_mul_mod a (y ^ n) p

-- the powers of a square
square_pow : (y n : ℕ) → (y * y) ^ n ≡ y ^ (n + n)
square_pow y zero = pow-zero (y * y) ∙ sym (pow-zero y)
square_pow y (suc n) =
    let e : suc n + suc n ≡ suc (suc (n + n)) = omega arith in
    pow-suc (y * y) n ∙ ap (λ (m : ℕ). m * (y * y)) (square_pow y n) ∙ sym (mul_assoc (y ^ (n + n)) y y)
    ∙ ap (λ (m : ℕ). m * y) (sym (pow-suc y (n + n))) ∙ sym (pow-suc y (suc (n + n)))
    ∙ ap (λ (k : ℕ). y ^ k) (sym e)

-- the bits of n: with the number, its square and the square of that
pub power_by_bits : (p a y n : ℕ)
    → (((a * y ^ (n % 2)) % p * ((y * y) % p) ^ (n / 2 % 2)) % p * (((y * y) % p * ((y * y) % p)) % p) ^ (n / 4)) % p ≡ (a * y ^ n) % p
power_by_bits p a y n =
    let i = n % 2 in
    let j = n / 2 % 2 in
    let k = n / 4 in
    let e : i + (j + j) + (k + k + (k + k)) ≡ n = omega arith in
    let s = y * y in
    ap (λ (m : ℕ). (((a * y ^ i) % p * (s % p) ^ j) % p * m ^ k) % p) (mod_mul_mod s (s % p) p ∙ mul_mod_mod s s p)
    ∙ ap (λ (m : ℕ). (m * ((s * s) % p) ^ k) % p) (power_reduced p (a * y ^ i) s j)
    ∙ power_reduced p (a * y ^ i * s ^ j) (s * s) k
    ∙ ap₂ (λ (m l : ℕ). (a * y ^ i * m * l) % p) (square_pow y j) (square_pow s k ∙ square_pow y (k + k))
    ∙ ap (λ (m : ℕ). (m * y ^ (k + k + (k + k))) % p) (mul_assoc a (y ^ i) (y ^ (j + j)) ∙ ap (λ (m : ℕ). a * m) (sym (pow-add y i (j + j))))
    ∙ ap (λ (m : ℕ). m % p) (mul_assoc a (y ^ (i + (j + j))) (y ^ (k + k + (k + k))) ∙ ap (λ (m : ℕ). a * m) (sym (pow-add y (i + (j + j)) (k + k + (k + k)))))
    ∙ ap (λ (m : ℕ). (a * y ^ m) % p) e

-- the monomial, one variable after the other
pub head_in_turn : (p y z k : ℕ) → ((1 * y ^ (exponents k).y) % p * z ^ (exponents k).z) % p ≡ head y z k % p
head_in_turn p y z k =
    mod_mul_mod (1 * y ^ (exponents k).y) (z ^ (exponents k).z) p ∙ ap (λ (m : ℕ). (m * z ^ (exponents k).z) % p) (one-mul (y ^ (exponents k).y))

pub monomial_in_turn : (p y z w k : ℕ)
    → (((1 * y ^ (exponents k).y) % p * z ^ (exponents k).z) % p * w ^ (exponents k).w) % p ≡ monomial y z w k % p
monomial_in_turn p y z w k =
    ap (λ (m : ℕ). (m * w ^ (exponents k).w) % p) (head_in_turn p y z k) ∙ mod_mul_mod (head y z k) (w ^ (exponents k).w) p

-- of the key 0 the number is 1
pub head_none : (p y z : ℕ) → 1 < p → 1 ≡ head y z 0 % p
head_none p y z l = sym (ap (λ (n : ℕ). n % p) (ap₂ (λ (m n : ℕ). m * n) (pow-zero y) (pow-zero z)) ∙ mod-eq_of_lt l)

-- from a key to one where z has risen by n
pub head_risen : (p y z before k n : ℕ) → (exponents before).y ≡ (exponents k).y → (exponents before).z + n ≡ (exponents k).z
    → (head y z before % p * z ^ n) % p ≡ head y z k % p
head_risen p y z before k n same risen =
    let b = (exponents before).y in
    let c = (exponents before).z in
    mod_mul_mod (y ^ b * z ^ c) (z ^ n) p
    ∙ ap (λ (m : ℕ). m % p) (mul_assoc (y ^ b) (z ^ c) (z ^ n) ∙ ap (λ (m : ℕ). y ^ b * m) (sym (pow-add z c n))
    ∙ ap₂ (λ (i j : ℕ). y ^ i * z ^ j) same risen)

-- what a power means
pub el_pow : (p : ℕ) (h : 0 < p) (y n : ℕ) → el p (y ^ n) ≡ pow (Residues p h) (el p y) n
unfolding pow
el_pow p h y zero = ap (el p) (pow-zero y)
el_pow p h y (suc n) = ap (el p) (pow-suc y n) ∙ el_mul p (y ^ n) y ∙ ap (λ (u : Fp p). mul u (el p y)) (el_pow p h y n)

-- what a monomial means
pub el_monomial : (p : ℕ) (h : 0 < p) (y z w k : ℕ)
    → el p (monomial y z w k)
    ≡ mul (mul (pow (Residues p h) (el p y) (exponents k).y) (pow (Residues p h) (el p z) (exponents k).z)) (pow (Residues p h) (el p w) (exponents k).w)
el_monomial p h y z w k =
    let e = exponents k in
    el_mul p (y ^ e.y * z ^ e.z) (w ^ e.w)
    ∙ ap₂ mul (el_mul p (y ^ e.y) (z ^ e.z) ∙ ap₂ mul (el_pow p h y e.y) (el_pow p h z e.z)) (el_pow p h w e.w)
