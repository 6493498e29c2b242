-- Worked examples: the example file of docs/RULE.md, and one refusal of each number.
use Rattle.std.specs.Prelude.{ℕ, ◌≡◌, refl, List, [], ◌∷◌, replicate}
use Rattle.field.specs.Refusal.{none}
use Rattle.case_file.specs.Format.{today, known, kind_of, follows, little}
use Rattle.case_file.specs.Case.{added, flat}
use Rattle.case_file.specs.Reading.{refused, fault_number, reading, read_one_in, alone, read_in, read}
use Rattle.case_file.specs.Written.{file_of, in_order, records, packed, bytes}
use Rattle.case_file.specs.Handed.{contents, padded, case}

abbrev pub example : List ℕ
example =
    0x01 ∷ 0x11 ∷ 0
    ∷ 2 ∷ 1 ∷ 0 ∷ 0 ∷ 4
    ∷ 2 ∷ 0x10 ∷ 0 ∷ 0 ∷ 0
    ∷ 3 ∷ 1 ∷ 0 ∷ 0 ∷ 4
    ∷ 3 ∷ 2 ∷ 0 ∷ 0 ∷ 2
    ∷ 3 ∷ 1 ∷ 0 ∷ 0 ∷ 0
    ∷ 4 ∷ 0 ∷ 2
    ∷ 4 ∷ 0 ∷ 0
    ∷ 5 ∷ 0 ∷ 0 ∷ 0 ∷ 0 ∷ 0 ∷ 0
    ∷ 6
    ∷ []

pub example_read :
    contents (read example)
    ≡ record {
      fault = none;
      modulus = 17;
      first = padded 256 (0x04000001 ∷ 16 ∷ []);
      first_count = 2;
      second = padded 256 (0x04000001 ∷ 0x02000002 ∷ 1 ∷ []);
      second_count = 3;
      skeleton = padded 32 (512 ∷ 0 ∷ []);
      skeleton_count = 2;
      points = padded 96 (0 ∷ 0 ∷ 0 ∷ []);
      points_count = 3;
    }
unfolding read_in read_one_in reading alone fault_number added flat known kind_of follows little
example_read = refl

pub example_written : file_of today (case (read example)) ≡ example
unfolding read_in read_one_in reading alone fault_number added flat known kind_of follows little file_of in_order records packed bytes
example_written = refl

pub refusals :
    (read [] ≡ refused 24 0)
    × (read (7 ∷ []) ≡ refused 20 0)
    × (read (6 ∷ []) ≡ refused 22 0)
    × (read (1 ∷ 17 ∷ []) ≡ refused 21 0)
    × (read (1 ∷ 17 ∷ 0 ∷ 1 ∷ []) ≡ refused 22 3)
    × (read (1 ∷ 17 ∷ 0 ∷ 6 ∷ 0 ∷ []) ≡ refused 23 4)
    × (read (1 ∷ 17 ∷ 0 ∷ []) ≡ refused 24 3)
unfolding read_in read_one_in reading alone fault_number added known kind_of follows little
refusals = (refl, refl, refl, refl, refl, refl, refl)

-- 32 keys pass, the next is too many
pub too_many_keys : read (1 ∷ 17 ∷ 0 ∷ records today 4 (replicate 33 (0 ∷ []))) ≡ refused 25 99
unfolding read_in read_one_in reading alone fault_number added known kind_of follows little records packed bytes
too_many_keys = refl
