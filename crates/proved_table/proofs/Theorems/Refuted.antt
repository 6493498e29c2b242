-- The contracts refute the wrong results: each passes its test, by computing.
use Rattle.std.specs.Prelude.{◌≡◌, refl, true}
use Rattle.std.proofs.Math.Logic.Dec
use Rattle.std.proofs.Math.Decide.{ℕ_discrete, dec_le, dec_lt}
use Rattle.algebra.specs.Ring.{pow}
use Rattle.algebra.specs.Mono.{mono}
use Rattle.algebra.specs.Laws.Four.{compare_by, compare}
use Rattle.field.specs.Moduli.{listed}
use Rattle.field.specs.Numbers.{list_at_fault}
use Rattle.field.specs.Modulus.Laws.{every, listed_decided}
use Rattle.field.specs.Fp.{el, add, mul, neg, chase, inv}
use Rattle.field.specs.Elements.Fp.{Fp_discrete}
use Rattle.field.specs.Faults.Decision.{placed_check, look, first_check, decided}
use Rattle.field.specs.Loops.Filled.{cells, between}
use Rattle.field.specs.Loops.Fold.{fold, downwards}
use Rattle.poly.specs.Value.Model.{plus_term, with_term, value_of}
use Rattle.poly.specs.Euclid.Model.{size_to, scaled, monic, subtract, euclid, gcd}
use Rattle.poly.specs.Image.Model.{image_of_values, image_of}
use Rattle.divisor.specs.Candidate.{points_of}
use Rattle.divisor.specs.Sorting.Model.{lesser, alike, kept_of}
use Rattle.divisor.specs.Monic.Model.{leading, scaled_terms}
use Rattle.proved_table.specs.Test.TermDivision.{one_more, each_at_most, plus, less, less_all, before_all, leads, can_divide, divided, division}
use Rattle.proved_table.specs.Test.Computed.{within, under, tried, divided_by, by_answer, with_counts, by_kept, by_least, by_looks, computed}
use Rattle.proved_table.specs.Test.Decisions.{count_decided, not_below_decided, key_decided, plain_term_decided, term_decided, number_decided}
use Rattle.proved_table.specs.Test.Decisions.{checks_append, list_checks, terms_checks, two_lists_checks, skeleton_checks, points_checks}
use Rattle.proved_table.specs.Test.Decisions.{point_checks, checks, image_checks}
use Rattle.case_file.specs.Format.{known, kind_of, follows, little}
use Rattle.case_file.specs.Case.{added, flat}
use Rattle.case_file.specs.Reading.{fault_number, reading, read_one_in, alone, read_in}
use Rattle.case_file.specs.Written.{records, packed, bytes, in_order, file_of}
use Rattle.case_file.specs.Handed.{padded}
use Rattle.case_file.specs.WriteCall.{triples}
use Rattle.case_file.specs.Writer.Check.{unwritable_decided}
use Rattle.proved_table.specs.Row.{Each}
use Rattle.proved_table.specs.Test.Rows.{listed_and, same_numbers, agrees, passes, answers, test, image_passes, image_agrees, image_test}
use Rattle.proved_table.specs.Test.Rows.{multiplies, right_lists, quotient_agrees, quotient_test}
use Rattle.proved_table.specs.Test.RowsLaws.{each_tested}
use Rattle.proved_table.specs.Test.Cancels.{begins_with_one, hands_out, cancel_test}
use Rattle.proved_table.specs.Test.Writes.{write_checks, by_fault, right_write}
use Rattle.proved_table.specs.Wrong.{Refuted, QuotientRefuted, CancelRefuted, ImageRefuted, FileRefuted, WriteRefuted}
use Rattle.proved_table.specs.Wrong.{PickRefuted, PlaceRefuted, HeadRefuted}
use Rattle.proved_table.specs.WrongResults.{wrong_results}
use Rattle.proved_table.specs.WrongServices.{wrong_quotients, wrong_images, wrong_files}
use Rattle.proved_table.specs.WrongCancels.{wrong_cancels}
use Rattle.proved_table.specs.WrongCeilings.{wrong_ceilings, wrong_cancel_ceilings}
use Rattle.proved_table.specs.WrongWrites.{wrong_writes}
use Rattle.proved_table.specs.WrongPicks.{wrong_picks, wrong_places, wrong_heads}
use Rattle.proved_table.specs.Test.Wrong.{clash, left_full, differs, wrong_test, wrong_quotient_test, wrong_cancel_test, wrong_image_test}
use Rattle.proved_table.specs.Test.Wrong.{file_numbers, wrong_file_test, write_numbers, wrong_write_test}
use Rattle.proved_table.specs.Test.WrongLaws.{refuted, quotient_refuted, cancel_refuted, image_refuted, file_refuted, write_refuted}
use Rattle.proved_table.specs.Test.Picks.{lower_from, by_lengths, right_pick, wrong_pick_test, wrong_place_test, wrong_head_test}
use Rattle.proved_table.specs.Test.PicksLaws.{pick_refuted, place_refuted, head_refuted}

wrong_results_pass : (every wrong_test wrong_results ≡ true) × (every wrong_test wrong_ceilings ≡ true)
unfolding list_at_fault ℕ_discrete dec_le dec_lt mono pow listed listed_decided el add mul neg chase inv Fp_discrete Dec.not Dec.and placed_check look first_check
    decided cells plus_term with_term fold value_of size_to scaled monic between subtract downwards euclid gcd image_of_values
    image_of points_of lesser alike kept_of leading scaled_terms compare_by compare each_at_most plus less before_all leads
    one_more can_divide divided division within under tried divided_by by_answer with_counts by_kept by_least by_looks computed
    count_decided not_below_decided key_decided plain_term_decided term_decided number_decided checks_append list_checks skeleton_checks points_checks checks
    listed_and same_numbers agrees passes answers test
    clash left_full differs wrong_test
wrong_results_pass = (refl, refl)

-- the contract of the candidate refutes each of its wrong results
pub wrong_results_refuted : Each Refuted wrong_results
wrong_results_refuted = each_tested wrong_test Refuted refuted wrong_results wrong_results_pass.0

-- and those of a ceiling
pub wrong_ceilings_refuted : Each Refuted wrong_ceilings
wrong_ceilings_refuted = each_tested wrong_test Refuted refuted wrong_ceilings wrong_results_pass.1

-- the contract of the quotient
pub wrong_quotients_refuted : Each QuotientRefuted wrong_quotients
unfolding list_at_fault ℕ_discrete dec_le dec_lt listed listed_decided el add mul neg chase inv Fp_discrete Dec.not Dec.and placed_check look first_check decided
    compare_by compare each_at_most plus less less_all before_all leads one_more can_divide divided division divided_by
    count_decided not_below_decided key_decided plain_term_decided term_decided list_checks listed_and same_numbers
    right_lists multiplies quotient_agrees quotient_test
    clash left_full differs wrong_quotient_test
wrong_quotients_refuted = each_tested wrong_quotient_test QuotientRefuted quotient_refuted wrong_quotients refl

wrong_cancels_pass : (every wrong_cancel_test wrong_cancels ≡ true) × (every wrong_cancel_test wrong_cancel_ceilings ≡ true)
unfolding list_at_fault ℕ_discrete dec_le dec_lt mono pow listed listed_decided el add mul neg chase inv Fp_discrete Dec.not Dec.and placed_check look first_check
    decided cells plus_term with_term fold value_of size_to scaled monic between subtract downwards euclid gcd image_of_values
    image_of points_of lesser alike kept_of leading scaled_terms compare_by compare each_at_most plus less less_all before_all leads
    one_more can_divide divided division within under tried divided_by by_answer with_counts by_kept by_least by_looks computed
    count_decided not_below_decided key_decided plain_term_decided term_decided number_decided checks_append list_checks skeleton_checks points_checks checks
    listed_and same_numbers agrees passes answers test
    right_lists multiplies begins_with_one hands_out cancel_test clash left_full differs wrong_cancel_test
wrong_cancels_pass = (refl, refl)

-- of the Cancel key
pub wrong_cancels_refuted : Each CancelRefuted wrong_cancels
wrong_cancels_refuted = each_tested wrong_cancel_test CancelRefuted cancel_refuted wrong_cancels wrong_cancels_pass.0

pub wrong_cancel_ceilings_refuted : Each CancelRefuted wrong_cancel_ceilings
wrong_cancel_ceilings_refuted = each_tested wrong_cancel_test CancelRefuted cancel_refuted wrong_cancel_ceilings wrong_cancels_pass.1

-- of the image
pub wrong_images_refuted : Each ImageRefuted wrong_images
unfolding list_at_fault ℕ_discrete dec_le dec_lt listed listed_decided el add mul neg chase inv Dec.not Dec.and placed_check look first_check decided cells
    plus_term with_term fold value_of size_to scaled monic between subtract downwards euclid gcd image_of_values image_of
    count_decided not_below_decided key_decided plain_term_decided term_decided number_decided checks_append list_checks point_checks image_checks same_numbers
    image_passes image_agrees image_test clash wrong_image_test
wrong_images_refuted = each_tested wrong_image_test ImageRefuted image_refuted wrong_images refl

-- of the reader
pub wrong_files_refuted : Each FileRefuted wrong_files
unfolding list_at_fault read_in read_one_in reading alone fault_number added flat known kind_of follows little padded records packed bytes clash file_numbers
    wrong_file_test
wrong_files_refuted = each_tested wrong_file_test FileRefuted file_refuted wrong_files refl

-- of the writer
pub wrong_writes_refuted : Each WriteRefuted wrong_writes
unfolding list_at_fault ℕ_discrete dec_lt Dec.not placed_check decided kind_of added records packed bytes in_order file_of triples unwritable_decided
    write_checks by_fault right_write clash write_numbers wrong_write_test
wrong_writes_refuted = each_tested wrong_write_test WriteRefuted write_refuted wrong_writes refl

-- of the picker: other terms, wherever the lists lie; and the other list, where the lists begin at two places
pub wrong_picks_refuted : Each PickRefuted wrong_picks
unfolding ℕ_discrete dec_le dec_lt Dec.and placed_check look first_check decided count_decided not_below_decided key_decided plain_term_decided
    checks_append terms_checks two_lists_checks clash lower_from by_lengths right_pick wrong_pick_test
wrong_picks_refuted = each_tested wrong_pick_test PickRefuted pick_refuted wrong_picks refl

pub wrong_places_refuted : Each PlaceRefuted wrong_places
unfolding ℕ_discrete dec_le dec_lt Dec.and placed_check look first_check decided count_decided not_below_decided key_decided plain_term_decided
    checks_append terms_checks two_lists_checks lower_from by_lengths right_pick wrong_place_test
wrong_places_refuted = each_tested wrong_place_test PlaceRefuted place_refuted wrong_places refl

pub wrong_heads_refuted : Each HeadRefuted wrong_heads
unfolding ℕ_discrete dec_le dec_lt Dec.and placed_check look first_check decided count_decided not_below_decided key_decided plain_term_decided
    checks_append terms_checks two_lists_checks clash lower_from by_lengths right_pick wrong_head_test
wrong_heads_refuted = each_tested wrong_head_test HeadRefuted head_refuted wrong_heads refl
