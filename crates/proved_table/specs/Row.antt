-- A row of the proved table: what is asked, and the record and the terms that are to be found. Beside the rows, quotients, cancelled
-- fractions, files, picked parts, images and products. What it means that each holds.
use Rattle.std.specs.Prelude.{◌≡◌, ◌⊎◌, ◌↔◌, true, false, List, [], ◌∷◌, ℕ, ◌≤◌, ◌<◌, eqb, length}
use Rattle.std.specs.Borrow.{Bor}
use Rattle.algebra.specs.SeriesRing.{S4}
use Rattle.field.specs.Numbers.{OUTPUT_SHORT}
use Rattle.field.specs.Refusal.{fault}
use Rattle.field.specs.Prime.{Prime}
use Rattle.field.specs.Modulo.{Modulo}
use Rattle.poly.specs.ImageCall.{ImageRecord}
use Rattle.poly.specs.QuotientCall.{QuotientRecord}
use Rattle.poly.specs.Keys.{keys}
use Rattle.poly.specs.Terms.{poly}
use Rattle.poly.specs.ShorterPart.{ShorterPart}
use Rattle.poly.specs.ImageCall.{ImageCall, ImageAnswer}
use Rattle.poly.specs.QuotientCall.{QuotientCall, quotient_call, QuotientResult, quotient_result, Quotient}
use Rattle.field.specs.Lent.{written}
use Rattle.poly.specs.Room.{work_room, cleared}
use Rattle.divisor.specs.declared.CandidateRecord.{CandidateRecord}
use Rattle.divisor.specs.Candidate.{Call, Result, refused_record, Candidate}
use Rattle.cancel.specs.declared.CancelRecord.{CancelRecord}
use Rattle.cancel.specs.CancelCall.{CancelCall, cancel_call, CancelResult, cancel_result, with_both, Cancel}
use Rattle.case_file.specs.Reading.{read}
use Rattle.case_file.specs.Handed.{Contents, contents}
use Rattle.case_file.specs.WriteCall.{WriteCall, WriteResult, Write}

pub record Row : Type 0 where
  pub modulus : ℕ
  pub first_list : List ℕ
  pub second_list : List ℕ
  pub skeleton : List ℕ
  pub points : List ℕ
  pub ceiling : ℕ
  pub found : CandidateRecord
  pub terms : List ℕ

-- the call of a row, with an output and a work room
abbrev pub call : Row → List ℕ → List ℕ → Call
call r output work =
    record {
      modulus = r.modulus;
      first_list = r.first_list;
      second_list = r.second_list;
      skeleton = r.skeleton;
      points = r.points;
      ceiling = r.ceiling;
      output = output;
      work = work;
    }

-- the row's record, the output with the row's terms first in it, and the work room cleared
abbrev pub result : Row → List ℕ → List ℕ → Result
result r output work = record { found = r.found; output = written r.terms output; work = cleared work }

-- in every output and work room that are long enough that is the candidate
abbrev pub Holds : Row → Type 0
Holds r = (output work : List ℕ) → length r.skeleton ≤ length output → work_room ≤ length work → Candidate (call r output work) (result r output work)

-- and nothing else is: every result that meets the contract of the row's call is the row's
abbrev pub Determined : Row → Type 0
Determined r = (output work : List ℕ) → length r.skeleton ≤ length output → work_room ≤ length work
    → (q : Result) → Candidate (call r output work) q → q ≡ result r output work

-- a row of the quotient: what is asked, and the record and the terms that are to be found
pub record QuotientRow : Type 0 where
  pub modulus : ℕ
  pub first_list : List ℕ
  pub second_list : List ℕ
  pub found : QuotientRecord
  pub terms : List ℕ

abbrev pub quotient_call_of : QuotientRow → List ℕ → List ℕ → QuotientCall
quotient_call_of r output work = quotient_call r.modulus r.first_list r.second_list output work

abbrev pub quotient_result_of : QuotientRow → List ℕ → List ℕ → QuotientResult
quotient_result_of r output work = quotient_result r.found (written r.terms output) (cleared work)

-- in every output and work room that are long enough that is the quotient
abbrev pub QuotientHolds : QuotientRow → Type 0
QuotientHolds r = (output work : List ℕ) → keys ≤ length output → work_room ≤ length work
    → Quotient (quotient_call_of r output work) (quotient_result_of r output work)

-- A row of the Cancel key: the candidate's row with the same inputs, whose two lists are N and D and whose terms are G; the number c; and the record and
-- the terms of N' and D' that are to be found. With a refusal c is of no account.
pub record CancelRow : Type 0 where
  pub divisor : Row
  pub factor : ℕ
  pub found : CancelRecord
  pub numerator : List ℕ
  pub denominator : List ℕ

-- the key's call with the inputs of a candidate's row, two outputs and a work room
abbrev pub cancel_call_of : Row → List ℕ → List ℕ → List ℕ → CancelCall
cancel_call_of r numerator denominator work =
    cancel_call r.modulus r.first_list r.second_list r.skeleton r.points r.ceiling numerator denominator work

abbrev pub cancel_result_of : CancelRow → List ℕ → List ℕ → List ℕ → CancelResult
cancel_result_of r numerator denominator work =
    cancel_result r.found (written r.numerator numerator) (written r.denominator denominator) (cleared work)

-- in every two outputs and work room that are long enough that is what the key brings about
abbrev pub Cancels : CancelRow → Type 0
Cancels r = (numerator denominator work : List ℕ) → keys ≤ length numerator → keys ≤ length denominator → work_room ≤ length work
    → Cancel (cancel_call_of r.divisor numerator denominator work) (cancel_result_of r numerator denominator work)

-- and nothing else: every result that meets the contract of the row's call is the row's
abbrev pub CancelDetermined : CancelRow → Type 0
CancelDetermined r = (numerator denominator work : List ℕ) → keys ≤ length numerator → keys ≤ length denominator → work_room ≤ length work
    → (q : CancelResult) → Cancel (cancel_call_of r.divisor numerator denominator work) q → q ≡ cancel_result_of r numerator denominator work

-- Where an output is under 4,096, whichever it is and whatever the work room, exactly one result meets the contract: 10, with nothing changed that is
-- lent.
abbrev pub ShortRefused : CancelRow → Type 0
ShortRefused r = (numerator denominator work : List ℕ) → (length numerator < keys) ⊎ (length denominator < keys) → (q : CancelResult)
    → Cancel (cancel_call_of r.divisor numerator denominator work) q
    ↔ (q ≡ cancel_result (with_both (refused_record (fault OUTPUT_SHORT 0)) 0 0) numerator denominator work)

-- a file, and what the reader hands back
pub record FileRow : Type 0 where
  pub bytes : List ℕ
  pub found : Contents

abbrev pub Reads : FileRow → Type 0
Reads r = r.found ≡ contents (read r.bytes)

-- a call of the writer, its buffer included, and its result
pub record WriteRow : Type 0 where
  pub call : WriteCall
  pub result : WriteResult

abbrev pub Writes : WriteRow → Type 0
Writes r = Write r.call r.result

-- two lists, which of them the shorter leading part is of, 1 or 2, and its terms
pub record PickRow : Type 0 where
  pub first_list : List ℕ
  pub second_list : List ℕ
  pub list : ℕ
  pub terms : List ℕ

-- where the list of that number begins
abbrev pub place_of : ℕ → Bor (List ℕ) → Bor (List ℕ) → ℕ × ℕ
place_of list first second = elim (eqb list 2) [ true ↦ second.ref_ptr | false ↦ first.ref_ptr ]

-- slices that are a row's lists, and a part that has the row's terms and begins where the row's list does
pub record Sliced (r : PickRow) (first second part : Bor (List ℕ)) : Type 0 where
  pub first_now : first.now ≡ r.first_list
  pub second_now : second.now ≡ r.second_list
  pub part_now : part.now ≡ r.terms
  pub part_place : part.ref_ptr ≡ place_of r.list first second

-- every such part is the shorter leading part
abbrev pub Picks : PickRow → Type 0
Picks r = (first second part : Bor (List ℕ)) → Sliced r first second part → ShorterPart first second part

-- an image that a row names
pub record ImageRow : Type 0 where
  pub call : ImageCall
  pub found : ImageRecord

abbrev pub Shows : ImageRow → Type 0
Shows r = ImageAnswer r.call r.found

-- a list of terms, and two of which it is the product
pub record Product : Type 0 where
  pub whole : List ℕ
  pub first : List ℕ
  pub second : List ℕ

-- as polynomials modulo p
abbrev pub Multiplies : (p : ℕ) → Prime p → Product → Type 0
Multiplies p P q = poly p P q.whole ≡ (S4 (Modulo p P).ring).mul (poly p P q.first) (poly p P q.second)

-- each of a list
abbrev pub Each : {X : Type 0} → (X → Type 0) → List X → Type 0
Each F [] = Unit {0}
Each F (x ∷ xs) = F x × Each F xs
