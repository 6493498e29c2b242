-- The key's table of refusals by the candidate's: with the room that the candidate is lent, both refuse the same and let the same pass.
use Rattle.std.specs.Prelude.{◌≡◌, List, [], ◌++◌, ℕ, ◌≤◌, ◌<◌, length}
use Rattle.std.proofs.Common.{inl, inr, arith}
use Rattle.field.specs.Refusal.{Line, Refuses, Passes}
use Rattle.field.specs.Faults.Laws.{OnePlaceEach, whole_one_place, placed_never, never_placed, refuses_alike, passes_front}
use Rattle.field.specs.Faults.Laws.{passes_append, passes_back}
use Rattle.field.specs.declared.faults.Fault.{Fault}
use Rattle.poly.specs.Keys.{keys}
use Rattle.poly.specs.Lists.{of_lists}
use Rattle.poly.specs.Room.{work_room, room_lines, of_rooms}
use Rattle.poly.specs.List.Right.{RightLists, lists_are_right}
use Rattle.divisor.specs.Candidate.{most_keys, of_skeleton, of_points, of_inputs, table}
use Rattle.divisor.specs.Answer.CandidateDetermined.{inputs_one_place}
use Rattle.cancel.specs.CancelCall.{CancelCall, TooShort, cancel_table, divisor_call}
use Rattle.cancel.specs.Cancelling.Model.{RoomFor, none_lent, enough}

module _ (c : CancelCall) where
  -- the lines before those of the rooms
  abbrev inputs : List Line
  inputs = of_inputs c.modulus c.numerator c.denominator c.skeleton c.points []

  abbrev lists : List Line
  lists = of_lists c.modulus c.numerator c.denominator

  abbrev rooms : List Line
  rooms = room_lines (TooShort c) (length c.work)

  pub cancel_one_place : OnePlaceEach (cancel_table c)
  cancel_one_place =
      inputs_one_place c.modulus c.numerator c.denominator c.skeleton c.points rooms (whole_one_place _, (whole_one_place _, tt))

  -- a skeleton that passes has 1 to 32 keys
  some_keys : Passes inputs → 0 < length c.skeleton
  some_keys pass = let n : ¬ (length c.skeleton ≡ 0) = λ e. never_placed pass.1.1.1.1.1.0 (inl e) in omega arith

  few_keys : Passes inputs → length c.skeleton ≤ most_keys
  few_keys pass = let n : ¬ (most_keys < length c.skeleton) = λ l. never_placed pass.1.1.1.1.1.0 (inr l) in omega arith

  -- where no line applies
  module _ (pass : Passes (cancel_table c)) where
    pub right_lists : RightLists c.modulus c.numerator c.denominator
    right_lists =
        lists_are_right c.modulus c.numerator c.denominator
        (passes_front lists (of_skeleton c.skeleton ++ (of_points c.modulus c.points ++ rooms)) pass)

    abbrev passed_rooms : Passes (room_lines (TooShort c) (length c.work))
    passed_rooms = passes_back inputs rooms pass

    pub numerator_fits : keys ≤ length c.numerator_output
    numerator_fits = let n : ¬ (length c.numerator_output < keys) = λ l. never_placed passed_rooms.0 (inl l) in omega arith

    pub denominator_fits : keys ≤ length c.denominator_output
    denominator_fits = let n : ¬ (length c.denominator_output < keys) = λ l. never_placed passed_rooms.0 (inr l) in omega arith

    pub work_fits : work_room ≤ length c.work
    work_fits = let n : ¬ (length c.work < work_room) = never_placed passed_rooms.1.0 in omega arith

  -- where the key's table lets pass, the candidate's does too, with the numerator's output for G
  pub candidate_passes : Passes (cancel_table c) → Passes (table (divisor_call c c.numerator_output))
  candidate_passes pass =
      let front = passes_front inputs rooms pass in
      passes_append inputs (of_rooms (length c.numerator_output) (length c.skeleton) (length c.work)) front
      (placed_never (λ l. omega (arith, few_keys front, numerator_fits pass)), (passed_rooms pass).1)

  -- so much room is lent to the candidate
  abbrev pub Lent : ℕ → Type 0
  Lent room = RoomFor (length c.numerator_output) (length c.denominator_output) room

  -- the candidate's room is too short exactly where one of the key's outputs is
  output_short : (room : ℕ) → Lent room → Passes inputs → room < length c.skeleton → TooShort c
  output_short room (none_lent s) pass l = s
  output_short room (enough n d) pass l = absurd (let f = few_keys pass in omega arith)

  room_short : (room : ℕ) → Lent room → Passes inputs → TooShort c → room < length c.skeleton
  room_short room (none_lent t) pass s = some_keys pass
  room_short room (enough n d) pass (inl l) = absurd (omega arith)
  room_short room (enough n d) pass (inr l) = absurd (omega arith)

  module _ (output : List ℕ) (lent : Lent (length output)) where
    abbrev candidate_rooms : List Line
    candidate_rooms = of_rooms (length output) (length c.skeleton) (length c.work)

    pub refused_too : (f : Fault) → Refuses (table (divisor_call c output)) f → Refuses (cancel_table c) f
    refused_too f h = refuses_alike inputs candidate_rooms rooms f rooms_alike h
      where
        rooms_alike : Passes inputs → Refuses candidate_rooms f → Refuses rooms f
        rooms_alike pass (inl h) = inl (h.0, h.1, (output_short (length output) lent pass h.2.0, h.2.1))
        rooms_alike pass (inr h) = inr (placed_never (λ s. never_placed h.0 (room_short (length output) lent pass s)), h.1)

    pub passed_too : Passes (table (divisor_call c output)) → Passes (cancel_table c)
    passed_too h =
        let front = passes_front inputs candidate_rooms h in
        let back = passes_back inputs candidate_rooms h in
        passes_append inputs rooms front (placed_never (λ s. never_placed back.0 (room_short (length output) lent front s)), back.1)
