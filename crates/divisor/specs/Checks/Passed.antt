-- Inputs that pass: what their lists, skeleton, points and rooms have, and that the images looked at are the rule's.
use Rattle.std.specs.Prelude.{◌≡◌, ◌⊎◌, List, ◌++◌, ℕ, ◌*◌, ◌/◌, ◌%◌, ◌≤◌, ◌<◌, length, get_or}
use Rattle.std.proofs.Common.{inl, inr, arith}
use Rattle.std.proofs.Math.Decide.{ℕ_discrete}
use Rattle.field.specs.Moduli.{Listed}
use Rattle.field.specs.Refusal.{Passes}
use Rattle.field.specs.Faults.Laws.{never_placed}
use Rattle.poly.specs.declared.PointImage.{PointImage}
use Rattle.poly.specs.Keys.{keys}
use Rattle.poly.specs.Lists.{Count, WrongKey, WrongNumber, of_lists}
use Rattle.poly.specs.Room.{of_rooms, work_room}
use Rattle.poly.specs.Value.Laws.{Bounded}
use Rattle.poly.specs.List.Laws.{none_wrong, FallFrom, keys_fall, falling_bounded}
use Rattle.poly.specs.Points.Check.{numbers_below}
use Rattle.poly.specs.List.Right.{RightLists, lists_are_right}
use Rattle.divisor.specs.Candidate.{most_keys, most_points, most_point_numbers, Call, table, prime, Numbers, A, B, lent_points, of_skeleton, of_points}
use Rattle.divisor.specs.Points.Model.{LookReady}
use Rattle.divisor.specs.Sorting.Laws.{Looked}
use Rattle.divisor.specs.Points.Seen.{looks_from, seen}

-- what points that pass have
pub record RightPoints (p : ℕ) (points : List ℕ) : Type 0 where
  pub few : length points ≤ most_point_numbers
  pub threes : length points ≡ 3 * (length points / 3)
  pub below : (i : ℕ) → i < length points → get_or points i 0 < p

points_are_right : (p : ℕ) (points : List ℕ) → Passes (of_points p points) → RightPoints p points
points_are_right p points h =
    let counted : ¬ (Count most_point_numbers points ⊎ (¬ (length points % 3 ≡ 0))) = never_placed h.0 in
    record {
      few = let n : ¬ (most_point_numbers < length points) = λ l. counted (inl (inr l)) in omega arith;
      threes = elim (ℕ_discrete (length points % 3) 0) [ yes q ↦ omega arith | no q ↦ absurd (counted (inr q)) ];
      below = numbers_below p points (none_wrong (WrongNumber p points) h.1.0);
    }

-- how many points are lent, and the records of their images
abbrev pub point_count : Call → ℕ
point_count c = length c.points / 3

abbrev pub looks_of : Call → List PointImage
looks_of c = looks_from c.modulus c.first_list c.second_list c.points 0 (point_count c)

module _ (c : Call) (pass : Passes (table c)) where
  -- the lines behind those of the lists
  abbrev rest : Passes
      (of_skeleton c.skeleton ++ (of_points c.modulus c.points ++ of_rooms (length c.output) (length c.skeleton) (length c.work)))
  rest = pass.1.1.1.1.1

  lists_pass : Passes (of_lists c.modulus c.first_list c.second_list)
  lists_pass = (pass.0, (pass.1.0, (pass.1.1.0, (pass.1.1.1.0, (pass.1.1.1.1.0, tt)))))

  pub right_lists : RightLists c.modulus c.first_list c.second_list
  right_lists = lists_are_right c.modulus c.first_list c.second_list lists_pass

  -- no power of x in a list is above its first term's, nor above 7
  pub first_bounded : (listed : Listed c.modulus) → Bounded (Numbers c listed) (A c listed)
  first_bounded listed = falling_bounded c.modulus (prime c listed) c.first_list right_lists.first.falls

  pub second_bounded : (listed : Listed c.modulus) → Bounded (Numbers c listed) (B c listed)
  second_bounded listed = falling_bounded c.modulus (prime c listed) c.second_list right_lists.second.falls

  pub keys_most : length c.skeleton ≤ most_keys
  keys_most = let n : ¬ (most_keys < length c.skeleton) = λ l. never_placed rest.0 (inr l) in omega arith

  pub skeleton_falls : FallFrom keys c.skeleton
  skeleton_falls = keys_fall c.skeleton (none_wrong (WrongKey c.skeleton) rest.1.0)

  pub right_points : RightPoints c.modulus c.points
  right_points = points_are_right c.modulus c.points (rest.1.1.0, (rest.1.1.1.0, tt))

  pub few_points : point_count c ≤ most_points
  few_points = let f = right_points.few in omega arith

  pub output_fits : length c.skeleton ≤ length c.output
  output_fits = let n : ¬ (length c.output < length c.skeleton) = never_placed rest.1.1.1.1.0 in omega arith

  pub work_fits : work_room ≤ length c.work
  work_fits = let n : ¬ (length c.work < work_room) = never_placed rest.1.1.1.1.1.0 in omega arith

  pub look_ready : LookReady c.modulus c.first_list c.second_list c.points c.work
  look_ready =
      record { lists = lists_pass; threes = right_points.threes; few = right_points.few; below = right_points.below; room = work_fits }

  pub looked : (listed : Listed c.modulus) → Looked (prime c listed) (A c listed) (B c listed) (lent_points c listed) (looks_of c)
  looked listed = seen look_ready (prime c listed) 0 (point_count c) (let t = right_points.threes in omega arith)
