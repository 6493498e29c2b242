-- The test of a wrong result, computed: its row passes the row's test, and somewhere the wrong result has another number than the row's.
-- Of the reader: than what the file gives. Of the writer: than the right result, computed.
use Rattle.std.specs.Prelude.{Bool, true, false, ◌&&◌, ◌||◌, List, [], ◌∷◌, ◌++◌, ℕ, eqb}
use Rattle.field.specs.Lent.{written}
use Rattle.field.specs.Refusal.{after_fault}
use Rattle.case_file.specs.Reading.{read}
use Rattle.case_file.specs.Handed.{Contents, contents}
use Rattle.case_file.specs.WriteCall.{WriteResult}
use Rattle.cancel.specs.declared.CancelRecord.{CancelRecord}
use Rattle.proved_table.specs.Row.{CancelRow, WriteRow}
use Rattle.proved_table.specs.Test.Rows.{numbers, test, quotient_numbers, quotient_test, image_numbers, image_test}
use Rattle.proved_table.specs.Test.Cancels.{cancel_numbers, cancel_test}
use Rattle.proved_table.specs.Test.Writes.{right_write}
use Rattle.proved_table.specs.Wrong.{Wrong, WrongCancel}
use Rattle.proved_table.specs.WrongResults.{WrongCandidate}
use Rattle.proved_table.specs.WrongServices.{WrongQuotient, WrongImage, WrongFile}

-- at some place both have a number, and not the same
unfoldable pub clash : List ℕ → List ℕ → Bool
clash [] [] = false
clash [] (n ∷ ns) = false
clash (m ∷ ms) [] = false
clash (m ∷ ms) (n ∷ ns) = elim (eqb m n) [ true ↦ clash ms ns | false ↦ true ]

-- the work room is left, and begins with a number that is not 0
unfoldable pub left_full : Bool → List ℕ → Bool
left_full true begins = false
left_full false begins = clash begins (0 ∷ [])

-- against the right record, by its numbers, and the right terms
unfoldable pub differs : {R F : Type 0} → Wrong R F → (F → List ℕ) → F → List ℕ → Bool
differs w shown found terms =
    clash (shown w.found) (shown found)
    || clash (written w.terms w.output_begins) (written terms w.output_begins)
    || left_full w.clears w.work_begins

unfoldable pub wrong_test : WrongCandidate → Bool
wrong_test w = test w.row && differs w (λ r. numbers r []) w.row.found w.row.terms

unfoldable pub wrong_quotient_test : WrongQuotient → Bool
wrong_quotient_test w = quotient_test w.row && differs w (λ r. quotient_numbers r []) w.row.found w.row.terms

-- each output of the key as the one output of a wrong result
abbrev pub in_output : WrongCancel → List ℕ → List ℕ → Wrong CancelRow CancelRecord
in_output w begins terms =
    record { row = w.row; output_begins = begins; work_begins = w.work_begins; found = w.found; terms = terms; clears = w.clears }

abbrev pub in_numerator : WrongCancel → Wrong CancelRow CancelRecord
in_numerator w = in_output w w.numerator_begins w.numerator

abbrev pub in_denominator : WrongCancel → Wrong CancelRow CancelRecord
in_denominator w = in_output w w.denominator_begins w.denominator

unfoldable pub wrong_cancel_test : WrongCancel → Bool
wrong_cancel_test w =
    cancel_test w.row
    && (differs (in_numerator w) cancel_numbers w.row.found w.row.numerator
    || differs (in_denominator w) cancel_numbers w.row.found w.row.denominator)

unfoldable pub wrong_image_test : WrongImage → Bool
wrong_image_test w = image_test w.row && clash (image_numbers w.found) (image_numbers w.row.found)

-- the numbers that the reader hands back
unfoldable pub file_numbers : Contents → List ℕ
file_numbers r =
    after_fault r.fault (r.modulus ∷ r.first_count ∷ r.second_count ∷ r.skeleton_count ∷ r.points_count
    ∷ r.first ++ r.second ++ r.skeleton ++ r.points)

unfoldable pub wrong_file_test : WrongFile → Bool
wrong_file_test w = clash (file_numbers w.found) (file_numbers (contents (read w.row.bytes)))

-- the numbers of the writer's record, and the buffer left behind them
unfoldable pub write_numbers : WriteResult → List ℕ
write_numbers r = after_fault r.found.fault (r.found.length ∷ r.buffer)

unfoldable pub wrong_write_test : WriteRow → Bool
wrong_write_test w = clash (write_numbers w.result) (write_numbers (right_write w.call))
