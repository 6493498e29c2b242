-- The two round trips and the greatest length, stated over the promises of the calls alone: of `write`, and of `read`, `read_into` and `read_one_into`.
use Rattle.std.specs.Prelude.{◌≡◌, List, length, take, ℕ, ◌^◌, ◌≤◌, ◌<◌}
use Rattle.field.specs.Refusal.{none}
use Rattle.case_file.specs.Format.{base, first_kind, second_kind, skeleton_kind, point_kind, fullest, today}
use Rattle.case_file.specs.Reading.{Reading, read_one, read}
use Rattle.case_file.specs.Written.{Below}
use Rattle.case_file.specs.Handed.{Counts, Contents, in_array, contents, Gives}
use Rattle.case_file.specs.WriteCall.{WriteCall, write_call, WriteResult, wrote, Write}

-- the numbers of a call are of their widths, as their types say: modulus, keys and point numbers of two bytes, terms of four
pub record OfWidth (c : WriteCall) : Type 0 where
  pub modulus : c.modulus < base ^ 2
  pub first : Below (base ^ 4) c.first_list
  pub second : Below (base ^ 4) c.second_list
  pub skeleton : Below (base ^ 2) c.skeleton
  pub points : Below (base ^ 2) c.points

-- the modulus and the four lists of a call, as the reader hands back what it accepts
abbrev pub lists_of : WriteCall → Contents
lists_of c =
    record {
      fault = none;
      modulus = c.modulus;
      first = in_array first_kind c.first_list;
      first_count = length c.first_list;
      second = in_array second_kind c.second_list;
      second_count = length c.second_list;
      skeleton = in_array skeleton_kind c.skeleton;
      skeleton_count = length c.skeleton;
      points = in_array point_kind c.points;
      points_count = length c.points;
    }

-- what was handed back, to be written into a buffer: the first numbers of each array
abbrev pub call_of : Contents → List ℕ → WriteCall
call_of r buffer =
    write_call r.modulus (take r.first_count r.first) (take r.second_count r.second) (take r.skeleton_count r.skeleton)
    (take r.points_count r.points) buffer

-- where a call of the writer is accepted, the reader of the bytes that it wrote hands back its modulus and its lists
abbrev pub ReadOfWritten : Type 0
ReadOfWritten =
    (c : WriteCall) → OfWidth c → (w : WriteResult) → Write c w → w.found.fault.number ≡ 0
    → (r : Contents) → r ≡ contents (read (take w.found.length w.buffer)) → r ≡ lists_of c

-- where a file is accepted by the reader, the writer of what was handed back, in a buffer that is long enough, writes the same bytes
abbrev pub WrittenOfRead : Type 0
WrittenOfRead =
    (bs : List ℕ) → Below base bs → (r : Contents) → r ≡ contents (read bs) → r.fault.number ≡ 0
    → (buffer : List ℕ) → length bs ≤ length buffer → (w : WriteResult) → Write (call_of r buffer) w
    → w ≡ wrote bs buffer

-- no length is beyond that of the fullest file
abbrev pub NeverLonger : Type 0
NeverLonger = (c : WriteCall) (w : WriteResult) → Write c w → w.found.length ≤ fullest today

-- the record and the lent arrays of `read_into` and `read_one_into`, as `read` hands them back
abbrev pub together : Counts → (first second skeleton points : List ℕ) → Contents
together r first second skeleton points =
    record {
      fault = r.fault;
      modulus = r.modulus;
      first = first;
      first_count = r.first;
      second = second;
      second_count = r.second;
      skeleton = skeleton;
      skeleton_count = r.skeleton;
      points = points;
      points_count = r.points;
    }

-- the modulus and the lists of a call, and the length of its file, are handed back
pub record HandsBack (c : WriteCall) (w : WriteResult) (r : Counts) (first second skeleton points : List ℕ) : Type 0 where
  pub lists : together r first second skeleton points ≡ lists_of c
  pub next : r.next ≡ w.found.length

-- the first trip by a reader with lent arrays, where `reading` is what it reads of the writer's result
abbrev pub ReadBack : (WriteResult → Reading) → Type 0
ReadBack reading =
    (c : WriteCall) → OfWidth c → (w : WriteResult) → Write c w → w.found.fault.number ≡ 0
    → (r : Counts) (first second skeleton points : List ℕ) → Gives (reading w) r first second skeleton points
    → HandsBack c w r first second skeleton points

-- `read_into` is given the bytes that were written, `read_one_into` the whole buffer: what stands after the file is left
abbrev pub ReadIntoOfWritten : Type 0
ReadIntoOfWritten = ReadBack (λ w. read (take w.found.length w.buffer))

abbrev pub ReadOneIntoOfWritten : Type 0
ReadOneIntoOfWritten = ReadBack (λ w. read_one w.buffer)

-- the second trip from `read_into`: all bytes are written again; and from `read_one_into`: the bytes up to `next`
abbrev pub WrittenOfReadInto : Type 0
WrittenOfReadInto =
    (bs : List ℕ) → Below base bs → (r : Counts) (first second skeleton points : List ℕ) → Gives (read bs) r first second skeleton points
    → r.fault.number ≡ 0 → (buffer : List ℕ) → length bs ≤ length buffer
    → (w : WriteResult) → Write (call_of (together r first second skeleton points) buffer) w → w ≡ wrote bs buffer

abbrev pub WrittenOfReadOneInto : Type 0
WrittenOfReadOneInto =
    (bs : List ℕ) → Below base bs → (r : Counts) (first second skeleton points : List ℕ) → Gives (read_one bs) r first second skeleton points
    → r.fault.number ≡ 0 → (buffer : List ℕ) → r.next ≤ length buffer
    → (w : WriteResult) → Write (call_of (together r first second skeleton points) buffer) w → w ≡ wrote (take r.next bs) buffer
