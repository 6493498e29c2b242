-- The model of a polynomial in x on eight numbers modulo p, x^0 first: degree, scaling, remainder and quotient, and
-- Euclid's algorithm, as the code does it.
use Rattle.std.specs.Prelude.{true, false, List, ℕ, zero, suc, ◌+◌, ◌-◌, ◌*◌, ◌%◌, eqb, get_or, set, replicate}
use Rattle.field.specs.Fp.{el, inv}
use Rattle.field.specs.Loops.Filled.{cells, between}
use Rattle.field.specs.Loops.Fold.{fold, downwards}

-- the place after the highest number that is not 0, among the first n; 0 where all are 0
unfoldable pub size_to : ℕ → List ℕ → ℕ
size_to zero f = 0
size_to (suc n) f = elim (eqb (get_or f n 0) 0) [ true ↦ size_to n f | false ↦ suc n ]

abbrev pub size : List ℕ → ℕ
size f = size_to 8 f

-- each number times c
unfoldable pub scaled : ℕ → ℕ → List ℕ → List ℕ
scaled p c f = cells (λ i. (c * get_or f i 0) % p) 8

-- all divided by the number at n
unfoldable pub monic : ℕ → ℕ → List ℕ → List ℕ
monic p n f = scaled p (inv (el p (get_or f n 0))).val f

-- f - c x^k g at the power i, which is k or above
abbrev pub less_at : ℕ → ℕ → ℕ → List ℕ → List ℕ → ℕ → ℕ
less_at p c k f g i = (get_or f i 0 + (p - c) * get_or g (i - k) 0) % p

-- f - c x^k g
unfoldable pub subtract : ℕ → ℕ → ℕ → List ℕ → List ℕ → List ℕ
subtract p c k f g = cells (between k 8 (less_at p c k f g) f) 8

-- the power k + m of f taken off by g, which is monic of degree m
abbrev pub reduced : ℕ → ℕ → List ℕ → ℕ → List ℕ → List ℕ
reduced p m g k f = subtract p (get_or f (k + m) 0) k f g

-- the remainder of f by g, where f has k powers from m on
abbrev pub remainder : ℕ → ℕ → List ℕ → ℕ → List ℕ → List ℕ
remainder p m g k f = fold (reduced p m g) (downwards k) f

-- the quotient of f by g, which is monic of degree m, put into q from its highest power down, where f has k powers from m on
unfoldable pub put_quotient : ℕ → ℕ → List ℕ → ℕ → List ℕ → List ℕ → List ℕ
put_quotient p m g zero f q = q
put_quotient p m g (suc k) f q = put_quotient p m g k (reduced p m g k f) (set q k (get_or f (k + m) 0))

abbrev pub quotient : ℕ → ℕ → List ℕ → List ℕ → List ℕ
quotient p m g f = put_quotient p m g (8 - m) f (replicate 8 0)

-- Euclid's algorithm; the fuel falls, and the size of g is enough
unfoldable pub euclid : ℕ → ℕ → List ℕ → List ℕ → List ℕ
euclid p zero f g = f
euclid p (suc fuel) f g =
    elim (eqb (size g) 0) [
      | true ↦ f
      | false ↦ euclid p fuel (monic p (size g - 1) g) (remainder p (size g - 1) (monic p (size g - 1) g) (8 - (size g - 1)) f)
    ]

-- the monic greatest common divisor of a and b, which is not 0
unfoldable pub gcd : ℕ → List ℕ → List ℕ → List ℕ
gcd p a b = euclid p (size b) a b
