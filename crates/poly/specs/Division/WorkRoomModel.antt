-- Division in the lent work room: the remainder's cells, the quotient's cells, and what is beyond;
-- what the functions of the division and the quotient ask for and promise.
use Rattle.std.specs.Prelude.{◌≡◌, List, ℕ, ◌≤◌, ◌<◌, length, get_or, take, drop}
use Rattle.poly.specs.Keys.{keys}
use Rattle.poly.specs.Terms.{key_of}
use Rattle.field.specs.Lent.{written}
use Rattle.poly.specs.Room.{work_room}
use Rattle.poly.specs.TrialDivision.{Trial}
use Rattle.poly.specs.TrialDivision.{CanDivide, Told}
use Rattle.poly.specs.Division.SpreadModel.{gathered}
use Rattle.poly.specs.Division.Model.{KeysBelow, Setting, Outcome, divide_from, found_from, divided, found}

abbrev pub remainder_cells : List ℕ → List ℕ
remainder_cells work = take keys work

abbrev pub quotient_cells : List ℕ → List ℕ
quotient_cells work = take keys (drop keys work)

abbrev pub beyond : List ℕ → List ℕ
beyond work = drop work_room work

-- for the subtraction of one product
pub record CanSubtract (p q shift : ℕ) (divisor cells : List ℕ) : Type 0 where
  pub positive : 0 < p
  pub reduced : q ≤ p
  pub within : KeysBelow shift (length cells) divisor

-- for the steps of a division: no cell of the remainder from top on is other than 0
pub record CanStep (d : Setting) (top : ℕ) (work : List ℕ) : Type 0 where
  pub positive : 0 < d.modulus
  pub room : work_room ≤ length work
  pub within : top ≤ keys
  pub above : (i : ℕ) → top ≤ i → i < keys → get_or work i 0 ≡ 0
  pub leads : (i : ℕ) → i < length d.terms → key_of (get_or d.terms i 0) ≤ d.lead

-- A division of which the model finds the terms qs and has the outcome o, under a ceiling: what is told, the quotient's cells where it is not cut off, and
-- what is beyond the cells left.
pub record Ran (ceiling : ℕ) (qs : List ℕ) (o : Outcome) (before after : List ℕ) (r : Trial) : Type 0 where
  pub told : Told ceiling (length qs) o.whole r
  pub quotient : length qs ≤ ceiling → quotient_cells after ≡ o.quotient
  pub rest : beyond after ≡ beyond before

-- the steps
abbrev pub Stepped : Setting → ℕ → List ℕ → List ℕ → Trial → Type 0
Stepped d ceiling before after =
    Ran ceiling (found_from d keys (remainder_cells before)) (divide_from d keys (remainder_cells before) (quotient_cells before)) before after

-- for a division of two lists: the remainder's cells are 0
pub record CanBegin (p : ℕ) (dividend divisor work : List ℕ) : Type 0 where
  pub lists : CanDivide p dividend divisor work
  pub empty : (i : ℕ) → i < keys → get_or work i 0 ≡ 0

-- the whole division
abbrev pub Divided : ℕ → List ℕ → List ℕ → ℕ → List ℕ → List ℕ → Trial → Type 0
Divided p dividend divisor ceiling before after =
    Ran ceiling (found p dividend divisor (remainder_cells before)) (divided p dividend divisor (remainder_cells before) (quotient_cells before))
    before after

-- for the gathering of the quotient's terms
pub record CanGather (cells out : List ℕ) : Type 0 where
  pub few : length cells ≤ keys
  pub room : length cells ≤ length out

-- how many terms, and where they stand
pub record Gathered (cells before after : List ℕ) (n : ℕ) : Type 0 where
  pub count : n ≡ length (gathered (length cells) cells)
  pub output : after ≡ written (gathered (length cells) cells) before
