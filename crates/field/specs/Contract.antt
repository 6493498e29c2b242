-- What the operations of `Element` ask for and promise, in plain numbers.
use Rattle.std.specs.Prelude.{◌≡◌, ℕ, ◌+◌, ◌-◌, ◌*◌, ◌%◌, ◌≤◌, ◌<◌}
use Rattle.field.specs.Moduli.{Listed}
use Rattle.field.specs.declared.elements.Element.{Element}

abbrev pub element : ℕ → ℕ → Element
element modulus value = record { modulus = modulus; value = value }

-- two numbers below the modulus
pub record Fit (a b : Element) : Type 0 where
  pub below : a.value < a.modulus
  pub other_below : b.value < a.modulus

-- a number of a listed modulus, not 0
pub record Invertible (a : Element) : Type 0 where
  pub is_listed : Listed a.modulus
  pub below : a.value < a.modulus
  pub nonzero : 0 < a.value

abbrev pub sum_of : Element → Element → Element
sum_of a b = element a.modulus ((a.value + b.value) % a.modulus)

abbrev pub difference_of : Element → Element → Element
difference_of a b = element a.modulus ((a.value + (a.modulus - b.value)) % a.modulus)

abbrev pub product_of : Element → Element → Element
product_of a b = element a.modulus ((a.value * b.value) % a.modulus)

-- a sum with a product
abbrev pub plus_product_of : Element → Element → Element → Element
plus_product_of r a b = element r.modulus ((r.value + a.value * b.value) % r.modulus)

-- the difference to a product: the modulus less the first factor is its opposite
pub record Subtracts (r a : Element) : Type 0 where
  pub positive : 0 < r.modulus
  pub within : a.value ≤ r.modulus

abbrev pub minus_product_of : Element → Element → Element → Element
minus_product_of r a b = element r.modulus ((r.value + (r.modulus - a.value) * b.value) % r.modulus)

-- the inverse by its law
pub record Inverse (a r : Element) : Type 0 where
  pub same : r.modulus ≡ a.modulus
  pub below : r.value < a.modulus
  pub product_one : (a.value * r.value) % a.modulus ≡ 1
