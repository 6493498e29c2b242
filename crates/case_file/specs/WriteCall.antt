-- The writer of case files: what is lent, the refusals in their order, and what is answered and left behind in every case.
use Rattle.std.specs.Prelude.{◌≡◌, ◌⊎◌, List, [], ◌∷◌, map, length, ℕ, ◌*◌, ◌%◌, ◌<◌}
use Rattle.field.specs.Numbers.{NOT_WRITABLE, BUFFER_SHORT}
use Rattle.field.specs.Refusal.{Line, line, whole, none, Refuses, Passes}
use Rattle.field.specs.Lent.{written}
use Rattle.field.specs.declared.faults.Fault.{Fault}
use Rattle.field.specs.declared.case.Case.{Case as Lent}
use Rattle.case_file.specs.Format.{modulus_kind, first_kind, second_kind, skeleton_kind, point_kind, end_kind, count, limit, today}
use Rattle.case_file.specs.Case.{Case, no_records, added}
use Rattle.case_file.specs.Written.{file_of}

-- What the writer tells: a fault, and how many bytes the file has.
pub record WriteRecord : Type 0 where
  pub fault : Fault
  pub length : ℕ

-- told of a refusal
abbrev pub refused_write : Fault → WriteRecord
refused_write f = record { fault = f; length = 0 }

-- told of a file that was written
abbrev pub written_length : ℕ → WriteRecord
written_length n = record { fault = none; length = n }

-- what the writer is lent
pub record WriteCall : Type 0 where
  pub modulus : ℕ
  pub first_list : List ℕ
  pub second_list : List ℕ
  pub skeleton : List ℕ
  pub points : List ℕ
  pub buffer : List ℕ

-- a call by its parts
abbrev pub write_call : ℕ → List ℕ → List ℕ → List ℕ → List ℕ → List ℕ → WriteCall
write_call p A B skeleton points buffer =
    record { modulus = p; first_list = A; second_list = B; skeleton = skeleton; points = points; buffer = buffer }

-- a call about a case
abbrev pub write_call_of : Lent → List ℕ → WriteCall
write_call_of c = write_call c.modulus c.first.now c.second.now c.skeleton.now c.points.now

-- records of one number each
abbrev pub singles_of : {A : Type 0} → (A → ℕ) → List A → List (List ℕ)
singles_of value ns = map (λ n. value n ∷ []) ns

abbrev pub singles : List ℕ → List (List ℕ)
singles ns = singles_of (λ (n : ℕ). n) ns

-- records of three numbers each; one or two numbers at the end make no record
unfoldable pub triples : List ℕ → List (List ℕ)
triples [] = []
triples (y ∷ []) = []
triples (y ∷ z ∷ []) = []
triples (y ∷ z ∷ w ∷ ns) = (y ∷ z ∷ w ∷ []) ∷ triples ns

-- the case of a modulus and four lists: the records of each kind
abbrev pub case_of : (modulus : ℕ) (first second skeleton points : List ℕ) → Case
case_of modulus first second skeleton points =
    added modulus_kind ((modulus ∷ []) ∷ [])
    (added first_kind (singles first)
    (added second_kind (singles second)
    (added skeleton_kind (singles skeleton)
    (added point_kind (triples points)
    (added end_kind ([] ∷ []) no_records)))))

-- the case that a call writes, and its file
abbrev pub call_case : WriteCall → Case
call_case c = case_of c.modulus c.first_list c.second_list c.skeleton c.points

abbrev pub file : WriteCall → List ℕ
file c = file_of today (call_case c)

-- n numbers are more than the records of kind k may have together
abbrev pub Over : ℕ → ℕ → Type 0
Over k n = limit today k * count today k < n

-- no file holds lists of these lengths: one is over its limit, or the numbers of points are not a multiple of three
abbrev pub Unwritable : (first second skeleton points : ℕ) → Type 0
Unwritable first second skeleton points =
    Over first_kind first ⊎ (Over second_kind second ⊎ (Over skeleton_kind skeleton ⊎ (Over point_kind points ⊎ ¬ (points % 3 ≡ 0))))

-- the lines of the writer, by the lengths of the four lists, of the file and of the buffer
abbrev pub of_lengths : (first second skeleton points file buffer : ℕ) → List Line
of_lengths first second skeleton points file buffer =
    line NOT_WRITABLE (whole (Unwritable first second skeleton points)) ∷ line BUFFER_SHORT (whole (buffer < file)) ∷ []

-- the refusals, tested in this order
abbrev pub write_table : WriteCall → List Line
write_table c = of_lengths (length c.first_list) (length c.second_list) (length c.skeleton) (length c.points) (length (file c)) (length c.buffer)

-- what it answers, and the buffer afterwards
pub record WriteResult : Type 0 where
  pub found : WriteRecord
  pub buffer : List ℕ

abbrev pub write_result : WriteRecord → List ℕ → WriteResult
write_result found buffer = record { found = found; buffer = buffer }

-- these bytes are written first in the buffer
abbrev pub wrote : List ℕ → List ℕ → WriteResult
wrote bytes buffer = write_result (written_length (length bytes)) (written bytes buffer)

-- the promise of the writer
pub data Write (c : WriteCall) : WriteResult → Type 0 where
  refused : (f : Fault) → Refuses (write_table c) f → Write c (write_result (refused_write f) c.buffer)
  accepted : Passes (write_table c) → Write c (wrote (file c) c.buffer)
