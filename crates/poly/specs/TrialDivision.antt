-- Trial division under a ceiling on its steps, for the layer above: what it is lent, and what it answers and leaves behind.
use Rattle.std.specs.Prelude.{◌≡◌, Bool, true, false, List, length, ℕ, ◌≤◌, ◌<◌, Result, Ok, Err}
use Rattle.algebra.specs.Division.{Division}
use Rattle.field.specs.Prime.{Prime}
use Rattle.field.specs.Moduli.{Listed}
use Rattle.field.specs.Modulo.{Modulo}
use Rattle.field.specs.Numbers.{DOES_NOT_DIVIDE, CEILING_REACHED}
use Rattle.poly.specs.declared.Stopped.{Stopped}
use Rattle.poly.specs.Keys.{keys}
use Rattle.poly.specs.Terms.{terms_of, poly}
use Rattle.poly.specs.Room.{work_room, cleared}
use Rattle.poly.specs.Lists.{Falling}

-- What a trial tells: 0 where the divisor divides, 15 or 18; and the steps taken.
pub record Trial : Type 0 where
  pub number : ℕ
  pub steps : ℕ

-- told of the steps taken, or of what it stopped with
abbrev pub trial : Result ℕ Stopped → Trial
trial (Ok n) = record { number = 0; steps = n }
trial (Err s) = record { number = s.number; steps = s.steps }

-- a listed modulus, two lists that are not empty and fall, and a work room that is not too short
pub record CanDivide (p : ℕ) (dividend divisor work : List ℕ) : Type 0 where
  pub is_listed : Listed p
  pub some_dividend : 0 < length dividend
  pub dividend_falls : Falling p keys dividend
  pub some_divisor : 0 < length divisor
  pub divisor_falls : Falling p keys divisor
  pub room : work_room ≤ length work

-- the number that says whether the divisor divides
abbrev pub says : Bool → ℕ
says true = 0
says false = DOES_NOT_DIVIDE

-- What is told of a division that takes n steps: the answer and the steps, where the ceiling is not below n; else one further step is due when as many as
-- the ceiling are taken.
pub data Told (ceiling n : ℕ) (whole : Bool) : Trial → Type 0 where
  ended : n ≤ ceiling → Told ceiling n whole (record { number = says whole; steps = n })
  cut_off : ceiling < n → Told ceiling n whole (record { number = CEILING_REACHED; steps = ceiling })

-- the dividend over the divisor by the rule of division, a step for each of the quotient's terms; the work room is cleared
pub record TrialDivision (p : ℕ) (dividend divisor : List ℕ) (ceiling : ℕ) (before after : List ℕ) (r : Trial) : Type 0 where
  pub quotient : List ℕ
  pub whole : Bool
  pub division : (P : Prime p) → Division (Modulo p P).ring (poly p P dividend) (poly p P divisor) (terms_of p P quotient) whole
  pub told : Told ceiling (length quotient) whole r
  pub room : after ≡ cleared before
