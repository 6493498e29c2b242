-- Commutative rings with path equality, and the powers of an element.
use Rattle.std.specs.Prelude.{◌≡◌, ℕ, zero, suc}

-- a commutative ring whose carrier is a set; equality is the path
pub record CommRing : Type 1 where
  pub Car : Type 0
  pub is_set : IsSet Car
  pub 𝟘 : Car
  pub 𝟙 : Car
  pub add : Car → Car → Car
  pub mul : Car → Car → Car
  pub neg : Car → Car
  pub add_assoc : (a b c : Car) → add (add a b) c ≡ add a (add b c)
  pub add_comm : (a b : Car) → add a b ≡ add b a
  pub add_zero : (a : Car) → add a 𝟘 ≡ a
  pub add_neg : (a : Car) → add a (neg a) ≡ 𝟘
  pub mul_assoc : (a b c : Car) → mul (mul a b) c ≡ mul a (mul b c)
  pub mul_comm : (a b : Car) → mul a b ≡ mul b a
  pub mul_one : (a : Car) → mul a 𝟙 ≡ a
  pub distrib : (a b c : Car) → mul (add a b) c ≡ add (mul a c) (mul b c)

module _ (R : CommRing) where
  open R use {Car, 𝟙, mul as ◌*◌}

  infixl 70 ◌*◌
  -- a^k
  unfoldable pub pow : Car → ℕ → Car
  pow a zero = 𝟙
  pow a (suc k) = pow a k * a
