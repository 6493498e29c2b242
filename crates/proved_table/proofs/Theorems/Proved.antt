-- P1 to P12 hold, and so do the rows beside them: they pass their test, by computing. No other result meets the contract of a row's call.
-- P1 is also what the bytes of the example file are answered; and beside the table stand the images that its rows name and the products that give its
-- polynomials, and rows of the quotient, the Cancel key, the image, the reader, the writer and the picker.
use Rattle.std.specs.Prelude.{◌≡◌, refl, true, List, [], ◌∷◌, map, ℕ, ◌%◌, ◌^◌, ◌≤◌, length}
use Rattle.std.proofs.Math.Logic.Dec
use Rattle.std.proofs.Math.Decide.{ℕ_discrete, dec_le, dec_lt}
use Rattle.algebra.specs.Ring.{pow}
use Rattle.algebra.specs.Mono.{mono}
use Rattle.algebra.specs.Laws.Four.{compare_by, compare}
use Rattle.field.specs.Prime.{Prime}
use Rattle.field.specs.Moduli.{listed}
use Rattle.field.specs.Numbers.{list_at_fault}
use Rattle.field.specs.Modulus.Laws.{every, listed_decided}
use Rattle.field.specs.Fp.{el, add, mul, neg, chase, inv}
use Rattle.field.specs.Elements.Fp.{Fp_discrete}
use Rattle.field.specs.Faults.Decision.{placed_check, look, first_check, decided}
use Rattle.poly.specs.Room.{work_room}
use Rattle.field.specs.Loops.Filled.{cells, between}
use Rattle.field.specs.Loops.Fold.{fold, downwards}
use Rattle.poly.specs.Value.Model.{plus_term, with_term, value_of}
use Rattle.poly.specs.Euclid.Model.{size_to, scaled, monic, subtract, euclid, gcd}
use Rattle.poly.specs.Image.Model.{image_of_values, image_of}
use Rattle.divisor.specs.Candidate.{points_of}
use Rattle.divisor.specs.Sorting.Model.{lesser, alike, kept_of}
use Rattle.divisor.specs.Monic.Model.{leading, scaled_terms}
use Rattle.case_file.specs.Format.{known, kind_of, follows, little}
use Rattle.case_file.specs.Case.{added, flat}
use Rattle.case_file.specs.Reading.{fault_number, reading, read_one_in, alone, read_in}
use Rattle.case_file.specs.Written.{records, packed, bytes, in_order, file_of}
use Rattle.case_file.specs.WriteCall.{triples}
use Rattle.case_file.specs.Writer.Check.{unwritable_decided}
use Rattle.case_file.specs.Reader.Examples.{example}
use Rattle.console.specs.OfFile.{asked}
use Rattle.console.specs.CandidateOfFile.{CandidateOfFile}
use Rattle.proved_table.specs.Row.{result, Holds, Determined, QuotientHolds, CancelRow, Cancels, CancelDetermined, ShortRefused, Reads, Writes, Picks}
use Rattle.proved_table.specs.Row.{Shows, Multiplies, Each}
use Rattle.proved_table.specs.Test.TermDivision.{one_more, each_at_most, plus, less, less_all, before_all, leads, can_divide, divided, division}
use Rattle.proved_table.specs.Test.Computed.{within, under, tried, divided_by, by_answer, with_counts, by_kept, by_least, by_looks, computed}
use Rattle.proved_table.specs.Test.Decisions.{count_decided, not_below_decided, key_decided, plain_term_decided, term_decided, number_decided}
use Rattle.proved_table.specs.Test.Decisions.{checks_append, list_checks, terms_checks, two_lists_checks, skeleton_checks, points_checks}
use Rattle.proved_table.specs.Test.Decisions.{point_checks, checks, image_checks}
use Rattle.proved_table.specs.Test.Rows.{listed_and, same_numbers, agrees, passes, answers, test, image_passes, image_agrees, image_test}
use Rattle.proved_table.specs.Test.Rows.{multiplies, right_lists, quotient_agrees, quotient_test}
use Rattle.proved_table.specs.Test.Cancels.{begins_with_one, hands_out, cancel_test}
use Rattle.proved_table.specs.Test.CancelsLaws.{cancel_tested, cancel_holds_determined, divisor_tested, short_tested}
use Rattle.proved_table.specs.Test.Writes.{write_checks, by_fault, right_write}
use Rattle.proved_table.specs.Test.WritesLaws.{right_write_meets}
use Rattle.proved_table.specs.Test.Picks.{lower_from, by_lengths, right_pick, pick_test}
use Rattle.proved_table.specs.Test.PicksLaws.{pick_tested}
use Rattle.proved_table.specs.Test.RowsLaws.{tested, holds_determined, quotient_tested, image_tested, multiplied, each_tested, each_follows}
use Rattle.proved_table.specs.MoreRows.{more_rows, quotients, more_images, files, writes, picks}
use Rattle.proved_table.specs.CancelRows.{cancels}
use Rattle.proved_table.specs.CeilingRows.{ceiling_rows, ceiling_cancels}
use Rattle.proved_table.specs.Table.{images, products, p1, table}

pub table_passes : (every test table ≡ true) × (every test more_rows ≡ true) × (every test ceiling_rows ≡ true)
unfolding list_at_fault ℕ_discrete dec_le dec_lt mono pow listed listed_decided el add mul neg chase inv Fp_discrete Dec.not Dec.and placed_check look first_check
    decided cells plus_term with_term fold value_of size_to scaled monic between subtract downwards euclid gcd image_of_values
    image_of points_of lesser alike kept_of leading scaled_terms compare_by compare each_at_most plus less before_all leads
    one_more can_divide divided division within under tried divided_by by_answer with_counts by_kept by_least by_looks computed
    count_decided not_below_decided key_decided plain_term_decided term_decided number_decided checks_append list_checks skeleton_checks points_checks checks
    listed_and same_numbers agrees passes answers test
table_passes = (refl, refl, refl)

pub table_holds : Each Holds table
table_holds = each_tested test Holds tested table table_passes.0

-- the rows beside P1 to P12 hold
pub more_rows_hold : Each Holds more_rows
more_rows_hold = each_tested test Holds tested more_rows table_passes.1

-- so do those at and below the exact ceiling
pub ceiling_rows_hold : Each Holds ceiling_rows
ceiling_rows_hold = each_tested test Holds tested ceiling_rows table_passes.2

-- no other result meets the contract of a row's call
pub table_determined : Each Determined table
table_determined = each_follows Holds Determined holds_determined table table_holds

-- the images that the rows name are those, and so are the images beside them
images_pass : (every image_test images ≡ true) × (every image_test more_images ≡ true)
unfolding list_at_fault ℕ_discrete dec_le dec_lt listed listed_decided el add mul neg chase inv Dec.not Dec.and placed_check look first_check decided cells
    plus_term with_term fold value_of size_to scaled monic between subtract downwards euclid gcd image_of_values image_of
    count_decided not_below_decided key_decided plain_term_decided term_decided number_decided checks_append list_checks point_checks image_checks same_numbers
    image_passes image_agrees image_test
images_pass = (refl, refl)

pub images_hold : Each Shows images
images_hold = each_tested image_test Shows image_tested images images_pass.0

pub more_images_hold : Each Shows more_images
more_images_hold = each_tested image_test Shows image_tested more_images images_pass.1

-- the quotients are those
pub quotients_hold : Each QuotientHolds quotients
unfolding list_at_fault ℕ_discrete dec_le dec_lt listed listed_decided el add mul neg chase inv Fp_discrete Dec.not Dec.and placed_check look first_check decided
    compare_by compare each_at_most plus less less_all before_all leads one_more can_divide divided division divided_by
    count_decided not_below_decided key_decided plain_term_decided term_decided list_checks listed_and same_numbers
    right_lists multiplies quotient_agrees quotient_test
quotients_hold = each_tested quotient_test QuotientHolds quotient_tested quotients refl

-- the Cancel key hands out those
cancels_pass : (every cancel_test cancels ≡ true) × (every cancel_test ceiling_cancels ≡ true)
unfolding list_at_fault ℕ_discrete dec_le dec_lt mono pow listed listed_decided el add mul neg chase inv Fp_discrete Dec.not Dec.and placed_check look first_check
    decided cells plus_term with_term fold value_of size_to scaled monic between subtract downwards euclid gcd image_of_values
    image_of points_of lesser alike kept_of leading scaled_terms compare_by compare each_at_most plus less less_all before_all leads
    one_more can_divide divided division within under tried divided_by by_answer with_counts by_kept by_least by_looks computed
    count_decided not_below_decided key_decided plain_term_decided term_decided number_decided checks_append list_checks skeleton_checks points_checks checks
    listed_and same_numbers agrees passes answers test
    right_lists multiplies begins_with_one hands_out cancel_test
cancels_pass = (refl, refl)

pub cancels_hold : Each Cancels cancels
cancels_hold = each_tested cancel_test Cancels cancel_tested cancels cancels_pass.0

pub ceiling_cancels_hold : Each Cancels ceiling_cancels
ceiling_cancels_hold = each_tested cancel_test Cancels cancel_tested ceiling_cancels cancels_pass.1

-- no other result meets the contract of its row's call
pub cancels_determined : Each CancelDetermined cancels
cancels_determined = each_follows Cancels CancelDetermined cancel_holds_determined cancels cancels_hold

-- the rows of the candidate that they name hold
pub divisors_hold : Each (λ (r : CancelRow). Holds r.divisor) cancels
divisors_hold = each_tested cancel_test (λ (r : CancelRow). Holds r.divisor) divisor_tested cancels cancels_pass.0

-- with either output too short each of them is refused with 10, and nothing else is let pass
pub shorts_refused : Each ShortRefused cancels
shorts_refused = each_tested cancel_test ShortRefused short_tested cancels cancels_pass.0

-- the files are read so
pub files_hold : Each Reads files
unfolding read_in read_one_in reading alone fault_number added flat known kind_of follows little records packed bytes
files_hold = (refl, (refl, (refl, (refl, (refl, tt)))))

-- the files are written so
pub writes_hold : Each Writes writes
unfolding dec_lt ℕ_discrete Dec.not placed_check decided added kind_of triples file_of in_order records packed bytes unwritable_decided write_checks by_fault
    right_write
writes_hold =
    (right_write_meets _, (right_write_meets _, (right_write_meets _, (right_write_meets _, (right_write_meets _, tt)))))

-- the shorter leading parts are those
pub picks_hold : Each Picks picks
unfolding ℕ_discrete dec_le dec_lt Dec.and placed_check look first_check decided count_decided not_below_decided key_decided plain_term_decided
    checks_append terms_checks two_lists_checks same_numbers lower_from by_lengths right_pick pick_test
picks_hold = each_tested pick_test Picks pick_tested picks refl

-- P11: as values y⁷ and y agree everywhere modulo 7
pub agree_as_values : map (λ (y : ℕ). (y ^ 7) % 7) (0 ∷ 1 ∷ 2 ∷ 3 ∷ 4 ∷ 5 ∷ 6 ∷ []) ≡ (0 ∷ 1 ∷ 2 ∷ 3 ∷ 4 ∷ 5 ∷ 6 ∷ [])
agree_as_values = refl

-- the lists that are given as products are those
pub products_hold : (P : Prime 17) → Each (Multiplies 17 P) products
unfolding dec_le dec_lt el add mul neg Fp_discrete compare_by compare plus less less_all multiplies
products_hold P = each_tested (multiplies 17 P) (Multiplies 17 P) (multiplied 17 P) products refl

-- the candidate of the example file is P1's record, with P1's terms first in the output
pub example_answered : (output work : List ℕ) → length p1.skeleton ≤ length output → work_room ≤ length work
    → CandidateOfFile output work example (result p1 output work)
unfolding read_in read_one_in reading alone fault_number added flat known kind_of follows little
example_answered output work long room = asked refl _ (table_holds.0 output work long room)
