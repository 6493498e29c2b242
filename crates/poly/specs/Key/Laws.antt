-- The key of a monomial and its exponents are each other's; the order of keys is that of the exponents; keys add where no exponent passes 7.
use Rattle.std.specs.Prelude.{◌≡◌, ℕ, ◌+◌, ◌-◌, ◌*◌, ◌/◌, ◌%◌, ◌≤◌, ◌<◌}
use Rattle.std.proofs.Common.{sym, ◌∙◌, ap, ap₂, mod-eq_of_lt, arith}
use Rattle.algebra.specs.Four.{Exponents, ◌⊞◌, ◌≺◌, by_x, by_y, by_z, by_w}
use Rattle.algebra.specs.Laws.Four.{exponents_path, Order, lower, equal, higher, compare}
use Rattle.poly.specs.Keys.{key, exponents}

split_8 : (k : ℕ) → k / 8 ≡ 8 * (k / 64) + k / 8 % 8
split_8 k = omega arith

split_64 : (k : ℕ) → k / 64 ≡ 8 * (k / 512) + k / 64 % 8
split_64 k = omega arith

split_1 : (k : ℕ) → k ≡ 8 * (k / 8) + k % 8
split_1 k = omega arith

-- where x and y have the same exponents, z's are apart by what is between the keys over 8
apart : (a b h c d : ℕ) → a ≡ 8 * h + c → b ≡ 8 * h + d → a ≤ b → d < 8 → c + (b - a) % 8 ≡ d
apart a b h c d ea eb l s =
    let n : b - a < 8 = omega arith in
    let m : (b - a) % 8 ≡ b - a = mod-eq_of_lt n in
    omega arith

pub z_risen : (before k : ℕ) → before ≤ k → k / 64 ≡ before / 64 → (exponents before).z + (k / 8 - before / 8) % 8 ≡ (exponents k).z
z_risen before k l e =
    apart (before / 8) (k / 8) (before / 64) _ _ (split_8 before) (split_8 k ∙ ap (λ (h : ℕ). 8 * h + k / 8 % 8) e) (omega arith) (omega arith)

pub key_of_exponents : (k : ℕ) → key (exponents k) ≡ k
key_of_exponents k = let a = split_1 k in let b = split_8 k in let c = split_64 k in omega arith

-- the exponents y, z, w are digits
pub record Digits (e : Exponents) : Type 0 where
  pub y : e.y < 8
  pub z : e.z < 8
  pub w : e.w < 8

pub digits_of : (k : ℕ) → Digits (exponents k)
digits_of k = record { y = omega arith; z = omega arith; w = omega arith }

by_64 : (k : ℕ) → k / 64 ≡ k / 8 / 8
by_64 k = omega arith

by_512 : (k : ℕ) → k / 512 ≡ k / 8 / 8 / 8
by_512 k = omega arith

high : (a d : ℕ) → d < 8 → (8 * a + d) / 8 ≡ a
high a d l = omega arith

low : (a d : ℕ) → d < 8 → (8 * a + d) % 8 ≡ d
low a d l = omega arith

nest : (e : Exponents) → key e ≡ 8 * (8 * (8 * e.x + e.y) + e.z) + e.w
nest e = omega arith

pub exponents_of_key : (e : Exponents) → Digits e → exponents (key e) ≡ e
exponents_of_key e h = exponents_path
    (by_512 (key e) ∙ ap (λ (n : ℕ). n / 8 / 8) at_8 ∙ ap (λ (n : ℕ). n / 8) (high (8 * e.x + e.y) e.z h.z) ∙ high e.x e.y h.y)
    (ap (λ (n : ℕ). n % 8) (by_64 (key e) ∙ ap (λ (n : ℕ). n / 8) at_8 ∙ high (8 * e.x + e.y) e.z h.z) ∙ low e.x e.y h.y)
    (ap (λ (n : ℕ). n % 8) at_8 ∙ low (8 * e.x + e.y) e.z h.z)
    (ap (λ (n : ℕ). n % 8) (nest e) ∙ low (8 * (8 * e.x + e.y) + e.z) e.w h.w)
  where
    at_8 : key e / 8 ≡ 8 * (8 * e.x + e.y) + e.z
    at_8 = ap (λ (n : ℕ). n / 8) (nest e) ∙ high (8 * (8 * e.x + e.y) + e.z) e.w h.w

pub exponents_injective : (j k : ℕ) → exponents j ≡ exponents k → j ≡ k
exponents_injective j k e = sym (key_of_exponents j) ∙ ap key e ∙ key_of_exponents k

-- exponents that fall in the order x, y, z, w are those of keys that fall
pub key_order : (e f : Exponents) → Digits e → Digits f → e ≺ f → key e < key f
key_order e f d h (by_x l) = omega (arith, d.y, d.z, d.w)
key_order e f d h (by_y p l) = omega (arith, d.z, d.w)
key_order e f d h (by_z p q l) = omega (arith, d.w)
key_order e f d h (by_w p q r l) = omega arith

pub key_order_of : (j k : ℕ) → exponents j ≺ exponents k → j < k
key_order_of j k l =
    let h : key (exponents j) < key (exponents k) = key_order (exponents j) (exponents k) (digits_of j) (digits_of k) l in
    let a = key_of_exponents j in let b = key_of_exponents k in omega arith

pub exponents_order : (j k : ℕ) → j < k → exponents j ≺ exponents k
exponents_order j k l = go (compare (exponents j) (exponents k))
  where
    go : Order (exponents j) (exponents k) → exponents j ≺ exponents k
    go (lower h) = h
    go (equal e) = absurd (let h = exponents_injective j k e in omega arith)
    go (higher h) = absurd (let m = key_order_of k j h in omega arith)

pub key_add : (e f : Exponents) → key (e ⊞ f) ≡ key e + key f
key_add e f = omega arith

-- keys add where the exponents of the product are digits
pub exponents_add : (j k : ℕ) → Digits (exponents j ⊞ exponents k) → exponents (j + k) ≡ exponents j ⊞ exponents k
exponents_add j k d =
    ap exponents (sym (key_add (exponents j) (exponents k) ∙ ap₂ ◌+◌ (key_of_exponents j) (key_of_exponents k)))
    ∙ exponents_of_key (exponents j ⊞ exponents k) d
