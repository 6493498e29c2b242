-- What the code's steps on eight numbers ask for, and what they make.
use Rattle.std.specs.Prelude.{ℕ, ◌-◌, ◌<◌, List, ◌≡◌, length, get_or}
use Rattle.field.specs.Moduli.{Listed}
use Rattle.poly.specs.Coefficients.{Eight}
use Rattle.poly.specs.Euclid.Model.{size, monic, remainder, gcd}

-- each number may be taken times another, modulo p
pub record Scalable (p : ℕ) (f : List ℕ) : Type 0 where
  pub positive : 0 < p
  pub eight : length f ≡ 8

-- a number at n that all may be divided by
pub record Divisible (p n : ℕ) (f : List ℕ) : Type 0 where
  pub is_listed : Listed p
  pub numbers : Eight p f
  pub there : n < 8
  pub nonzero : 0 < get_or f n 0

-- a multiple by c x^k may be subtracted from f
pub record Step (p c k : ℕ) (f : List ℕ) : Type 0 where
  pub below : c < p
  pub power : k < 8
  pub eight : length f ≡ 8

-- f may be reduced by a polynomial of degree m
pub record Reducible (p m : ℕ) (f : List ℕ) : Type 0 where
  pub numbers : Eight p f
  pub degree : m < 8

-- what a turn asks for: g, of size n, is not 0
pub record CanTurn (p n : ℕ) (f g : List ℕ) : Type 0 where
  pub is_listed : Listed p
  pub first : Eight p f
  pub second : Eight p g
  pub sized : n ≡ size g
  pub some : 0 < n

-- what a turn makes: g made monic, and what is left of f by it, of size m
pub record Stepped (p n : ℕ) (f g left made : List ℕ) (m : ℕ) : Type 0 where
  pub is_monic : made ≡ monic p (n - 1) g
  pub is_left : left ≡ remainder p (n - 1) made (8 - (n - 1)) f
  pub sized : m ≡ size left

-- two polynomials, of which the second is not 0
pub record Pair (p : ℕ) (a b : List ℕ) : Type 0 where
  pub is_listed : Listed p
  pub first : Eight p a
  pub second : Eight p b
  pub some : 0 < size b

-- u, of size n, is the greatest common divisor of a and b
pub record IsDivisor (p : ℕ) (a b u : List ℕ) (n : ℕ) : Type 0 where
  pub divisor : u ≡ gcd p a b
  pub sized : n ≡ size u
