-- The images of all points, in the work room, and those that are kept: in plain numbers, point after point.
use Rattle.std.specs.Prelude.{◌≡◌, List, map, ℕ, ◌+◌, ◌*◌, ◌/◌, ◌≤◌, ◌<◌, length, get_or, drop, replicate}
use Rattle.field.specs.Loops.Filled.{Filled}
use Rattle.field.specs.Prime.{Prime}
use Rattle.field.specs.Modulo.{Modulo}
use Rattle.field.specs.Refusal.{Passes}
use Rattle.poly.specs.declared.PointImage.{PointImage}
use Rattle.poly.specs.Lists.{of_lists}
use Rattle.poly.specs.Room.{work_room}
use Rattle.poly.specs.Image.Model.{image_of}
use Rattle.divisor.specs.Rule.{Kept}
use Rattle.divisor.specs.Candidate.{most_points, most_point_numbers, point_at}
use Rattle.divisor.specs.Sorting.Model.{places_before}
use Rattle.divisor.specs.Equations.Model.{image_at, kept_at}

-- the image at point i
abbrev pub look_at : ℕ → List ℕ → List ℕ → List ℕ → ℕ → PointImage
look_at p A B points i = image_of p A B (point_at points i)

-- what looking at the points asks for: inputs of which nothing is refused, and room
pub record LookReady (p : ℕ) (A B points work : List ℕ) : Type 0 where
  pub lists : Passes (of_lists p A B)
  pub threes : length points ≡ 3 * (length points / 3)
  pub few : length points ≤ most_point_numbers
  pub below : (i : ℕ) → i < length points → get_or points i 0 < p
  pub room : work_room ≤ length work

-- the sizes and the images of the points before n
pub record Looks (n p : ℕ) (A B points before after sizes : List ℕ) : Type 0 where
  pub sized : Filled (λ i. (look_at p A B points i).size) most_points (replicate most_points 0) n sizes
  pub same_length : length after ≡ length before
  pub images : (i : ℕ) → i < n → image_at after i ≡ (look_at p A B points i).coefficients
  pub beyond : drop work_room after ≡ drop work_room before

-- the points before i whose size is m, with their images
abbrev pub kept_before : {p : ℕ} (P : Prime p) (m : ℕ) (points sizes work : List ℕ) → ℕ → List (Kept (Modulo p P))
kept_before P m points sizes work i = map (kept_at P points work) (places_before m sizes i)

-- room for eight numbers from a place on, in the part that the points' images take
pub record StoreReady (at : ℕ) (work : List ℕ) : Type 0 where
  pub within : at + 8 ≤ 8 * most_points
  pub room : work_room ≤ length work
