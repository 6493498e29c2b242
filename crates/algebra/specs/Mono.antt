-- c X^n as a series, in one variable and in four.
use Rattle.std.specs.Prelude.{ℕ, zero, suc}
use Rattle.algebra.specs.Ring.{CommRing}
use Rattle.algebra.specs.Series.{Seq}
use Rattle.algebra.specs.SeriesRing.{SeriesR, S2, S3, S4}

module _ (R : CommRing) where
  open R use {Car, 𝟘}

  -- c at the place n, and 0 elsewhere: c X^n
  unfoldable pub mono : ℕ → Car → Seq R
  mono zero c zero = c
  mono zero c (suc k) = 𝟘
  mono (suc n) c zero = 𝟘
  mono (suc n) c (suc k) = mono n c k

-- u x^a y^b z^c w^d
abbrev pub mono4 : (R : CommRing) (a b c d : ℕ) → R.Car → (S4 R).Car
mono4 R a b c d u = mono (S3 R) a (mono (S2 R) b (mono (SeriesR R) c (mono R d u)))
