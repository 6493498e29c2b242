-- A wrong result: what a wrong version of a service answers to a row, and what it leaves behind. What it means that the contract refutes it.
use Rattle.std.specs.Prelude.{◌≡◌, Bool, true, false, List, ℕ, ◌≤◌, length, take}
use Rattle.std.specs.Borrow.{Bor}
use Rattle.poly.specs.ImageCall.{ImageRecord}
use Rattle.poly.specs.QuotientCall.{QuotientRecord}
use Rattle.poly.specs.Keys.{keys}
use Rattle.poly.specs.ShorterPart.{ShorterHead, ShorterPart}
use Rattle.poly.specs.ImageCall.{ImageAnswer}
use Rattle.poly.specs.QuotientCall.{quotient_result, Quotient}
use Rattle.field.specs.Lent.{written}
use Rattle.field.specs.declared.faults.Fault.{Fault}
use Rattle.poly.specs.Room.{work_room, cleared}
use Rattle.divisor.specs.declared.CandidateRecord.{CandidateRecord}
use Rattle.divisor.specs.Candidate.{candidate_result, Candidate}
use Rattle.case_file.specs.Reading.{read}
use Rattle.case_file.specs.Handed.{Contents, contents}
use Rattle.cancel.specs.declared.CancelRecord.{CancelRecord}
use Rattle.cancel.specs.CancelCall.{cancel_result, Cancel}
use Rattle.proved_table.specs.Row.{Row, call, QuotientRow, quotient_call_of, CancelRow, cancel_call_of}
use Rattle.proved_table.specs.Row.{ImageRow, FileRow, WriteRow, Writes, PickRow, Sliced}

-- The record that is answered, the terms that are written first in the output, and whether the work room is cleared or left as lent.
-- A lent room may already hold what is right. So it is said with what the output and the work room begin; [] says nothing of them.
pub record Wrong (R F : Type 0) : Type 0 where
  pub row : R
  pub output_begins : List ℕ
  pub work_begins : List ℕ
  pub found : F
  pub terms : List ℕ
  pub clears : Bool

-- a fault that is said to be of this list
abbrev pub naming : ℕ → Fault → Fault
naming list f = record { number = f.number; list = list; place = f.place }

-- a candidate's record with it
abbrev pub named : ℕ → CandidateRecord → CandidateRecord
named list r =
    record {
      fault = naming list r.fault;
      degree = r.degree;
      bad = r.bad;
      unlucky = r.unlucky;
      kept = r.kept;
      terms = r.terms;
      steps = r.steps;
    }

abbrev pub Begins : List ℕ → List ℕ → Type 0
Begins front list = take (length front) list ≡ front

abbrev pub work_left : Bool → List ℕ → List ℕ
work_left true work = cleared work
work_left false work = work

-- in no output and no work room that are long enough and begin so does the contract of the candidate let the wrong result pass
abbrev pub Refuted : Wrong Row CandidateRecord → Type 0
Refuted w = (output work : List ℕ) → length w.row.skeleton ≤ length output → work_room ≤ length work
    → Begins w.output_begins output → Begins w.work_begins work
    → ¬ Candidate (call w.row output work) (candidate_result w.found (written w.terms output) (work_left w.clears work))

-- the same of the quotient
abbrev pub QuotientRefuted : Wrong QuotientRow QuotientRecord → Type 0
QuotientRefuted w = (output work : List ℕ) → keys ≤ length output → work_room ≤ length work
    → Begins w.output_begins output → Begins w.work_begins work
    → ¬ Quotient (quotient_call_of w.row output work) (quotient_result w.found (written w.terms output) (work_left w.clears work))

-- The same of the Cancel key, which has two outputs: the terms that are written first in each, and with what each begins.
pub record WrongCancel : Type 0 where
  pub row : CancelRow
  pub numerator_begins : List ℕ
  pub denominator_begins : List ℕ
  pub work_begins : List ℕ
  pub found : CancelRecord
  pub numerator : List ℕ
  pub denominator : List ℕ
  pub clears : Bool

abbrev pub CancelRefuted : WrongCancel → Type 0
CancelRefuted w = (numerator denominator work : List ℕ) → keys ≤ length numerator → keys ≤ length denominator → work_room ≤ length work
    → Begins w.numerator_begins numerator → Begins w.denominator_begins denominator → Begins w.work_begins work
    → ¬ Cancel (cancel_call_of w.row.divisor numerator denominator work)
    (cancel_result w.found (written w.numerator numerator) (written w.denominator denominator) (work_left w.clears work))

-- where nothing is lent to be changed, a wrong result is a wrong record
pub record WrongRecord (R F : Type 0) : Type 0 where
  pub row : R
  pub found : F

-- of the image
abbrev pub ImageRefuted : WrongRecord ImageRow ImageRecord → Type 0
ImageRefuted w = ¬ ImageAnswer w.row.call w.found

-- of the reader
abbrev pub FileRefuted : WrongRecord FileRow Contents → Type 0
FileRefuted w = ¬ (w.found ≡ contents (read w.row.bytes))

-- of the writer
abbrev pub WriteRefuted : WriteRow → Type 0
WriteRefuted w = ¬ Writes w

-- of the picker, wherever the two lists lie
abbrev pub PickRefuted : PickRow → Type 0
PickRefuted w = (first second part : Bor (List ℕ)) → Sliced w first second part → ¬ ShorterPart first second part

-- of the picker, where the two lists do not begin at one place: the terms may be right, and only the place tells whose they are
abbrev pub PlaceRefuted : PickRow → Type 0
PlaceRefuted w = (first second part : Bor (List ℕ)) → ¬ (first.ref_ptr ≡ second.ref_ptr) → Sliced w first second part → ¬ ShorterPart first second part

-- of the picker that tells its part by list and number of terms
abbrev pub HeadRefuted : PickRow → Type 0
HeadRefuted w = ¬ ShorterHead w.first_list w.second_list (record { list = w.list; terms = length w.terms })
