-- What leaves the common divisors of a pair as they are; elements that divide each other.
use Rattle.algebra.specs.Ring.{CommRing}
use Rattle.algebra.specs.Domain.{Domain}
use Rattle.algebra.specs.Divides.{Div}
use Rattle.algebra.specs.GreatestCommon.{GreatestCommon}
use Rattle.algebra.specs.Laws.Solver.{◌⊕◌, ◌⊗◌, ◌⊖◌, ◌≗◌, ring3}
use Rattle.algebra.specs.Laws.Divides.{div_refl, div_trans, div_add, div_mul, div_neg, div_zero, div_to}

module _ (R : CommRing) (D : Domain R) where
  open R use {Car, 𝟘, add as ◌+◌, mul as ◌*◌, neg}
  open D use {P}

  infixl 60 ◌+◌
  infixl 70 ◌*◌
  pub greatest_swap : (a b g : Car) → GreatestCommon R D a b g → GreatestCommon R D b a g
  greatest_swap a b g h = record { left = h.right; right = h.left; most = λ e pe db da. h.most e pe da db }

  -- with nothing beside it, an element is its own greatest divisor
  pub greatest_zero : (a : Car) → GreatestCommon R D a 𝟘 a
  greatest_zero a = record { left = div_refl R D a; right = div_zero R D a; most = λ e pe da dz. da }

  -- the common divisors of a and b are those of a less a multiple of b, and b
  pub greatest_subtract : (a b m g : Car) → P m → GreatestCommon R D (a + neg (m * b)) b g → GreatestCommon R D a b g
  greatest_subtract a b m g pm h = record {
    left = div_to R D g _ a (ring3 R (λ a m b. (a ⊖ m ⊗ b) ⊕ m ⊗ b ≗ a) tt a m b)
        (div_add R D g (a + neg (m * b)) (m * b) h.left (div_mul R D g b m pm h.right));
    right = h.right;
    most = λ e pe da db. h.most e pe (div_add R D e a _ da (div_neg R D e _ (div_mul R D e b m pm db))) db;
  }

  -- elements that divide each other have the same multiples and the same divisors
  pub record Associate (a b : Car) : Type 0 where
    pub to : Div R D a b
    pub from : Div R D b a

  pub greatest_first : (a a' b g : Car) → Associate a a' → GreatestCommon R D a b g → GreatestCommon R D a' b g
  greatest_first a a' b g s h = record {
    left = div_trans R D g a a' h.left s.to;
    right = h.right;
    most = λ e pe da db. h.most e pe (div_trans R D e a' a da s.from) db;
  }

  pub greatest_second : (a b b' g : Car) → Associate b b' → GreatestCommon R D a b g → GreatestCommon R D a b' g
  greatest_second a b b' g s h = greatest_swap b' a g (greatest_first b b' a g s (greatest_swap a b g h))

  -- two greatest common divisors divide each other
  pub greatest_associate : (a b g h : Car) → P g → P h → GreatestCommon R D a b g → GreatestCommon R D a b h → Associate g h
  greatest_associate a b g h pg ph s t = record { to = t.most g pg s.left s.right; from = s.most h ph t.left t.right }
