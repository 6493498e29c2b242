-- The laws of the numbers modulo p, and how `el` carries sums, products and opposites over. Only the law of `neg` wants 0 < p.
use Rattle.std.specs.Prelude.{◌≡◌, refl, ℕ, ◌+◌, ◌*◌, ◌-◌, ◌/◌, ◌%◌, ◌<◌}
use Rattle.std.proofs.Common.{sym, ◌∙◌, subst, add_assoc, add_comm, add-mul, add-zero, mul_assoc, mul_comm, mul-one, mod-eq_of_lt, mod-lt}
use Rattle.std.proofs.Math.Path.{ap}
use mathlib.Core.HLevel.{hedberg, is_prop→PathP}
use Rattle.std.proofs.Math.Decide.{ℕ_discrete}
use native.Mathlib.Omega.{arith}
use Rattle.std.proofs.Math.Nat.{div-add-mod, add-mod-mod, mod-add-mod, mod-mod, mod_self, zero-mod}
use Rattle.field.specs.Fp.{Fp, el, add, mul, neg}
use Rattle.field.specs.Elements.Remainder.{mod_mul_mod, mul_mod_mod}

ℕ_set : IsSet ℕ
ℕ_set = hedberg ℕ_discrete

-- two elements are equal where their numbers are
pub Fp_path : {p : ℕ} {x y : Fp p} → x.val ≡ y.val → x ≡ y
Fp_path {p} {x} {y} e = λ i.
    record {
      val = e i;
      reduced = is_prop→PathP (λ j. e j % p ≡ e j) (λ j. ℕ_set (e j % p) (e j)) x.reduced y.reduced i;
    }

unfoldable pub Fp_discrete : (p : ℕ) → Discrete (Fp p)
unfolding ℕ_discrete
Fp_discrete p x y = go (ℕ_discrete x.val y.val)
  where
    go : Dec (x.val ≡ y.val) → Dec (x ≡ y)
    go (yes e) = yes (Fp_path e)
    go (no n) = no (λ e. n (ap (λ (z : Fp p). z.val) e))

pub Fp_set : (p : ℕ) → IsSet (Fp p)
Fp_set p = hedberg (Fp_discrete p)

-- numbers and their elements
pub el_val : {p : ℕ} (x : Fp p) → el p x.val ≡ x
unfolding el
el_val x = Fp_path x.reduced

pub val_of_el : (p n : ℕ) → (el p n).val ≡ n % p
unfolding el
val_of_el p n = refl

pub val_el : (p : ℕ) {n : ℕ} → n < p → (el p n).val ≡ n
unfolding el
val_el p h = mod-eq_of_lt h

pub val_lt : {p : ℕ} → 0 < p → (x : Fp p) → x.val < p
val_lt {p} h x = subst (λ (n : ℕ). n < p) x.reduced (mod-lt x.val h)

pub el_cong : (p m n : ℕ) → m % p ≡ n % p → el p m ≡ el p n
unfolding el
el_cong p m n e = Fp_path e

pub el_inj : (p m n : ℕ) → el p m ≡ el p n → m % p ≡ n % p
unfolding el
el_inj p m n e = ap (λ (z : Fp p). z.val) e

-- numbers below p are equal where their elements are
pub el_below_inj : (p m n : ℕ) → m < p → n < p → el p m ≡ el p n → m ≡ n
el_below_inj p m n h l e = sym (mod-eq_of_lt h) ∙ el_inj p m n e ∙ mod-eq_of_lt l

pub el_nonzero : (p n : ℕ) → n < p → ¬ (n ≡ 0) → ¬ (el p n ≡ el p 0)
el_nonzero p n h z e = z (el_below_inj p n 0 h (omega arith) e)

pub el_mod : (p n : ℕ) → el p (n % p) ≡ el p n
el_mod p n = el_cong p (n % p) n (mod-mod n p)

pub el_self : (p : ℕ) → el p p ≡ el p 0
el_self p = el_cong p p 0 (mod_self p ∙ sym (zero-mod p))

pub el_add : (p m n : ℕ) → el p (m + n) ≡ add (el p m) (el p n)
unfolding el add
el_add p m n = Fp_path (sym (mod-add-mod m p (n % p) ∙ add-mod-mod m n p))

pub el_mul : (p m n : ℕ) → el p (m * n) ≡ mul (el p m) (el p n)
unfolding el mul
el_mul p m n = Fp_path (sym (mod_mul_mod m (n % p) p ∙ mul_mod_mod m n p))

pub el_neg : (p n : ℕ) → el p (p - n % p) ≡ neg (el p n)
unfolding el neg
el_neg p n = refl

-- n is (n / d) d + n % d
pub el_div : (p n d : ℕ) → el p n ≡ add (mul (el p (n / d)) (el p d)) (el p (n % d))
el_div p n d = rw (← el_mul p (n / d) d, ← el_add p (n / d * d) (n % d), mul_comm (n / d) d, div-add-mod n d)

-- the laws of a commutative ring
module _ {p : ℕ} where
  pub Fp_add_comm : (x y : Fp p) → add x y ≡ add y x
  unfolding add
  Fp_add_comm x y = ap (λ (n : ℕ). el p n) (add_comm x.val y.val)

  pub Fp_mul_comm : (x y : Fp p) → mul x y ≡ mul y x
  unfolding mul
  Fp_mul_comm x y = ap (λ (n : ℕ). el p n) (mul_comm x.val y.val)

  pub Fp_add_assoc : (x y z : Fp p) → add (add x y) z ≡ add x (add y z)
  unfolding add el
  Fp_add_assoc x y z = Fp_path (simp (mod-add-mod, add-mod-mod, add_assoc))

  pub Fp_mul_assoc : (x y z : Fp p) → mul (mul x y) z ≡ mul x (mul y z)
  unfolding mul el
  Fp_mul_assoc x y z = Fp_path (simp (mod_mul_mod, mul_mod_mod, mul_assoc))

  pub Fp_add_zero : (x : Fp p) → add x (el p 0) ≡ x
  unfolding add el
  Fp_add_zero x = Fp_path (simp (add-mod-mod, add-zero) x.reduced)

  pub Fp_mul_one : (x : Fp p) → mul x (el p 1) ≡ x
  unfolding mul el
  Fp_mul_one x = Fp_path (simp (mul_mod_mod, mul-one) x.reduced)

  pub Fp_distrib : (x y z : Fp p) → mul (add x y) z ≡ add (mul x z) (mul y z)
  unfolding mul el add
  Fp_distrib x y z = Fp_path (simp (mod_mul_mod, mod-add-mod, add-mod-mod, add-mul))

  pub Fp_add_neg : 0 < p → (x : Fp p) → add x (neg x) ≡ el p 0
  unfolding add el neg
  Fp_add_neg h x =
      let b : x.val < p = val_lt h x in
      let e : x.val + (p - x.val) ≡ p = omega arith in
      Fp_path (simp (add-mod-mod, e, mod_self, zero-mod))
