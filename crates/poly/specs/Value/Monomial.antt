-- A monomial at a point in plain numbers, and what the steps towards it ask for.
use Rattle.std.specs.Prelude.{◌≡◌, ℕ, ◌*◌, ◌%◌, ◌^◌, ◌≤◌, ◌<◌}
use Rattle.field.specs.declared.elements.Element.{Element}
use Rattle.field.specs.Contract.{element}
use Rattle.poly.specs.Keys.{exponents}

-- y^b z^c for the exponents of a key, and y^b z^c w^d
abbrev pub head : ℕ → ℕ → ℕ → ℕ
head y z k = y ^ (exponents k).y * z ^ (exponents k).z

abbrev pub monomial : ℕ → ℕ → ℕ → ℕ → ℕ
monomial y z w k = head y z k * w ^ (exponents k).w

-- a y^n
abbrev pub times_power_of : Element → Element → ℕ → Element
times_power_of a y n = element a.modulus ((a.value * y.value ^ n) % a.modulus)

-- a number below a modulus, and another that has the same
pub record Factors (a y : Element) : Type 0 where
  pub below : a.value < a.modulus
  pub same : y.modulus ≡ a.modulus

-- the other one's power is 0 or 1
pub record BitReady (a y : Element) (n : ℕ) : Type 0 where
  pub factors : Factors a y
  pub bit : n < 2

-- its power has three bits
pub record PowerReady (a y : Element) (n : ℕ) : Type 0 where
  pub factors : Factors a y
  pub three_bits : n < 8

-- yz is y^b z^c for the exponents of the key `before`, and the key k is not smaller
pub record Rises (yz y z : Element) (before k : ℕ) : Type 0 where
  pub above : 1 < y.modulus
  pub same : z.modulus ≡ y.modulus
  pub number : yz ≡ element y.modulus (head y.value z.value before % y.modulus)
  pub not_greater : before ≤ k
