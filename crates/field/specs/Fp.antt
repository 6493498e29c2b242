-- The numbers modulo p: those that are their own remainder. Equality is the path. No operation wants evidence about p.
use Rattle.std.specs.Prelude.{◌≡◌, true, false, ℕ, zero, suc, ◌+◌, ◌*◌, ◌-◌, ◌/◌, ◌%◌, eqb}
use Rattle.std.proofs.Math.Nat.{mod-mod}

pub record Fp (p : ℕ) : Type 0 where
  pub val : ℕ
  pub reduced : val % p ≡ val

-- the element of a number
unfoldable pub el : (p : ℕ) → ℕ → Fp p
el p n = record { val = n % p; reduced = mod-mod n p }

unfoldable pub add : {p : ℕ} → Fp p → Fp p → Fp p
add {p} x y = el p (x.val + y.val)

unfoldable pub mul : {p : ℕ} → Fp p → Fp p → Fp p
mul {p} x y = el p (x.val * y.val)

unfoldable pub neg : {p : ℕ} → Fp p → Fp p
neg {p} x = el p (p - x.val)

-- From a t = r go on to a (- (p / r) t) = p % r, which is smaller, until r is 1; the fuel only bounds the depth, r is enough.
unfoldable pub chase : (p fuel r : ℕ) → Fp p → Fp p
chase p zero r t = t
chase p (suc fuel) r t =
    elim (eqb r 1) [ true ↦ t | false ↦ chase p fuel (p % r) (neg (mul (el p (p / r)) t)) ]

-- the inverse modulo a prime of each element but 0; `mul-inv` says that it is
unfoldable pub inv : {p : ℕ} → Fp p → Fp p
inv {p} a = chase p a.val a.val (el p 1)
