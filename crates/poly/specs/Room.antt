-- The rooms that are lent: the lines 10 and 11 of the table, and a work room of which the first 8,192 numbers are cleared.
use Rattle.std.specs.Prelude.{List, [], ◌∷◌, ◌++◌, ℕ, ◌<◌, drop, replicate}
use Rattle.field.specs.Numbers.{OUTPUT_SHORT, WORK_SHORT}
use Rattle.field.specs.Refusal.{Line, line, whole}

abbrev pub work_room : ℕ
work_room = 8192

-- the lines of the rooms, by when the output is too short and by the length of the work room
abbrev pub room_lines : Type 0 → ℕ → List Line
room_lines Short work = line OUTPUT_SHORT (whole Short) ∷ line WORK_SHORT (whole (work < work_room)) ∷ []

-- of two rooms, by their lengths and what the output needs
abbrev pub of_rooms : ℕ → ℕ → ℕ → List Line
of_rooms output needed work = room_lines (output < needed) work

-- n numbers that are 0, and the rest left
unfoldable pub zeroed : ℕ → List ℕ → List ℕ
zeroed n list = replicate n 0 ++ drop n list

-- the work room after a call that has used it
abbrev pub cleared : List ℕ → List ℕ
cleared work = zeroed work_room work
