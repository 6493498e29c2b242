-- Series over a ring: the functions of their coefficients, with sum, opposite, constants and product.
use Rattle.std.specs.Prelude.{ℕ, zero, suc}
use Rattle.algebra.specs.Ring.{CommRing}

-- formal power series: the coefficient functions
abbrev pub Seq : CommRing → Type 0
Seq R = ℕ → R.Car

-- without the first coefficient
abbrev pub tail : {A : Type 0} → (ℕ → A) → ℕ → A
tail f = λ n. f (suc n)

module _ (R : CommRing) where
  open R use {Car, 𝟘, add as ◌+◌, mul as ◌*◌, neg}

  infixl 60 ◌+◌
  infixl 70 ◌*◌
  -- sum, opposite and 0, coefficient by coefficient
  abbrev pub addS : Seq R → Seq R → Seq R
  addS f g = λ n. f n + g n

  abbrev pub negS : Seq R → Seq R
  negS f = λ n. neg (f n)

  abbrev pub zeroS : Seq R
  zeroS = λ n. 𝟘

  -- c f
  abbrev pub scale : Car → Seq R → Seq R
  scale c f = λ n. c * f n

  -- the constant c
  unfoldable pub constS : Car → Seq R
  constS c zero = c
  constS c (suc n) = 𝟘

  -- the product: its coefficient at n is f 0 g n + f 1 g (n - 1) + .. + f n g 0
  unfoldable pub conv : Seq R → Seq R → Seq R
  conv f g zero = f zero * g zero
  conv f g (suc n) = f zero * g (suc n) + conv (tail f) g n
