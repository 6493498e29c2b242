-- The check of one point: what is known of a point that passes.
use Rattle.std.specs.Prelude.{◌≡◌, List, ℕ, ◌≤◌, ◌<◌, length, get_or}
use Rattle.std.proofs.Math.Decide.{ℕ_discrete, dec_lt}
use Rattle.std.proofs.Common.{arith}
use Rattle.field.specs.Refusal.{Passes}
use Rattle.field.specs.Faults.Laws.{never_placed}
use Rattle.poly.specs.Lists.{WrongNumber}
use Rattle.poly.specs.ImageCall.{of_point}
use Rattle.poly.specs.List.Laws.{none_wrong}

-- numbers of which none is wrong are below p
pub numbers_below : (p : ℕ) (ns : List ℕ) → ((i : ℕ) → ¬ WrongNumber p ns i) → (i : ℕ) → i < length ns → get_or ns i 0 < p
numbers_below p ns n i l = elim (dec_lt (get_or ns i 0) p) [ yes h ↦ h | no h ↦ absurd (n i (record { there = l; large = omega arith })) ]

-- no number is wrong beyond the list
pub numbers_end : (p : ℕ) (ns : List ℕ) (i : ℕ) → length ns ≤ i → ¬ WrongNumber p ns i
numbers_end p ns i l w = let t = w.there in omega arith

module _ (p : ℕ) (point : List ℕ) where
  -- a point that passes
  pub point_three : Passes (of_point p point) → length point ≡ 3
  point_three h = elim (ℕ_discrete (length point) 3) [ yes e ↦ e | no n ↦ absurd (never_placed h.0 n) ]

  pub point_below : Passes (of_point p point) → (i : ℕ) → i < 3 → get_or point i 0 < p
  point_below h i l = let e = point_three h in numbers_below p point (none_wrong (WrongNumber p point) h.1.0) i (omega arith)
