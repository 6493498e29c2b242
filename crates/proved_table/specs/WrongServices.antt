-- The wrong results of the quotient, the image and the reader, each with the row that tells it from the right one.
use Rattle.std.specs.Prelude.{true, false, List, [], ◌∷◌, ℕ, length}
use Rattle.field.specs.Numbers.{DOES_NOT_DIVIDE, NO_GOOD_POINT, BODY_CUT, LIST_SECOND, LIST_SKELETON, LIST_POINTS}
use Rattle.field.specs.Refusal.{fault, none}
use Rattle.poly.specs.ImageCall.{ImageRecord}
use Rattle.poly.specs.QuotientCall.{QuotientRecord}
use Rattle.poly.specs.ImageCall.{refused_image}
use Rattle.case_file.specs.Handed.{Contents, padded}
use Rattle.proved_table.specs.Row.{QuotientRow, ImageRow, FileRow}
use Rattle.proved_table.specs.Table.{term_xy, at}
use Rattle.proved_table.specs.MoreRows.{f_over_e, e_over_f, k_over_e, a₂_over_factor, equal_as_values, image_bad, image_two, image_k, image_of_first}
use Rattle.proved_table.specs.MoreRows.{image_of_second, image_first_lead_lost, image_second_lead_lost}
use Rattle.proved_table.specs.MoreRows.{handed_back, refused_with, reader_refuses, example_first, example_second, example_skeleton}
use Rattle.proved_table.specs.MoreRows.{file_example, file_short, file_byte_more, file_cut_key, file_empty}
use Rattle.proved_table.specs.Wrong.{Wrong, WrongRecord, naming}

abbrev pub WrongQuotient : Type 0
WrongQuotient = Wrong QuotientRow QuotientRecord

-- a row, the quotient's terms that are said to be found; the work room is cleared
abbrev pub wrong_quotient : QuotientRow → List ℕ → WrongQuotient
wrong_quotient r terms =
    record { row = r; output_begins = []; work_begins = []; found = record { fault = none; terms = length terms }; terms = terms; clears = true }

-- the remainder is dropped: K is 1 times E and a remainder
abbrev pub remainder_dropped : WrongQuotient
remainder_dropped = wrong_quotient k_over_e (term_xy 1 0 0 ∷ [])

-- the division is tested as values: at every y the two are equal
abbrev pub quotient_as_values : WrongQuotient
quotient_as_values = wrong_quotient equal_as_values (term_xy 1 0 0 ∷ [])

-- the second list over the first: F over E for E over F
abbrev pub other_way : WrongQuotient
other_way = wrong_quotient e_over_f f_over_e.terms

-- the divisor is made monic and the quotient not scaled: A₂ over x y + 6 is 3 x + 14 y
abbrev pub divisor_made_monic : WrongQuotient
divisor_made_monic = wrong_quotient a₂_over_factor (term_xy 3 1 0 ∷ term_xy 14 0 1 ∷ [])

-- 15 where E divides F
abbrev pub never_exact : WrongQuotient
never_exact =
    record { row = f_over_e; output_begins = []; work_begins = []; found = record { fault = fault DOES_NOT_DIVIDE 0; terms = 0 }; terms = []; clears = true }

-- the right record, and an output that begins with 0 as lent
abbrev pub quotient_not_written : WrongQuotient
quotient_not_written = record { row = f_over_e; output_begins = 0 ∷ []; work_begins = []; found = f_over_e.found; terms = []; clears = true }

-- the right record and terms, and a work room that begins with 1 as lent
abbrev pub quotient_room_left : WrongQuotient
quotient_room_left =
    record { row = f_over_e; output_begins = []; work_begins = 1 ∷ []; found = f_over_e.found; terms = f_over_e.terms; clears = false }

-- 15 is said to be of the second list
abbrev pub divisor_named : WrongQuotient
divisor_named = record {
  row = e_over_f;
  output_begins = [];
  work_begins = [];
  found = record { fault = naming LIST_SECOND (fault DOES_NOT_DIVIDE 0); terms = 0 };
  terms = [];
  clears = true;
}

abbrev pub wrong_quotients : List WrongQuotient
wrong_quotients =
    remainder_dropped ∷ quotient_as_values ∷ other_way ∷ divisor_made_monic ∷ never_exact ∷ quotient_not_written ∷ quotient_room_left ∷ divisor_named ∷ []

abbrev pub WrongImage : Type 0
WrongImage = WrongRecord ImageRow ImageRecord

-- a row, the degree and the coefficients that are said to be the image's
abbrev pub wrong_image : ImageRow → ℕ → List ℕ → WrongImage
wrong_image r degree coefficients = record { row = r; found = record { fault = none; coefficients = coefficients; degree = degree } }

-- not made monic: 3 x + 1
abbrev pub image_not_monic : WrongImage
image_not_monic = wrong_image image_two 1 (1 ∷ 3 ∷ 0 ∷ 0 ∷ 0 ∷ 0 ∷ 0 ∷ 0 ∷ [])

-- a common divisor that is not the greatest: 1
abbrev pub not_greatest : WrongImage
not_greatest = wrong_image image_k 0 (1 ∷ 0 ∷ 0 ∷ 0 ∷ 0 ∷ 0 ∷ 0 ∷ 0 ∷ [])

-- the first value made monic, which does not divide the second: x² + 5 x + 11
abbrev pub first_value : WrongImage
first_value = wrong_image image_two 2 (11 ∷ 5 ∷ 1 ∷ 0 ∷ 0 ∷ 0 ∷ 0 ∷ 0 ∷ [])

-- the bad point passes: at y = 0 the values are x and x + 1, with the greatest common divisor 1
abbrev pub bad_point_passes : WrongImage
bad_point_passes = wrong_image image_bad 0 (1 ∷ 0 ∷ 0 ∷ 0 ∷ 0 ∷ 0 ∷ 0 ∷ 0 ∷ [])

-- the number of coefficients in place of the degree
abbrev pub size_for_degree : WrongImage
size_for_degree = wrong_image image_k 4 (12 ∷ 0 ∷ 0 ∷ 1 ∷ 0 ∷ 0 ∷ 0 ∷ 0 ∷ [])

-- the highest power first
abbrev pub highest_first : WrongImage
highest_first = wrong_image image_k 3 (1 ∷ 0 ∷ 0 ∷ 12 ∷ 0 ∷ 0 ∷ 0 ∷ 0 ∷ [])

-- the value 0 of the second list taken for the divisor
abbrev pub zero_for_the_image : WrongImage
zero_for_the_image = wrong_image image_of_first 0 (0 ∷ 0 ∷ 0 ∷ 0 ∷ 0 ∷ 0 ∷ 0 ∷ 0 ∷ [])

-- 12 where the x-leading coefficient of one list alone is 0, of the first and of the second
abbrev pub refused_by_the_first : WrongImage
refused_by_the_first = record { row = image_first_lead_lost; found = refused_image (fault NO_GOOD_POINT 0) }

abbrev pub refused_by_the_second : WrongImage
refused_by_the_second = record { row = image_second_lead_lost; found = refused_image (fault NO_GOOD_POINT 0) }

-- the value 0 of the first list taken for the divisor
abbrev pub zero_first_for_the_image : WrongImage
zero_first_for_the_image = wrong_image image_of_second 0 (0 ∷ 0 ∷ 0 ∷ 0 ∷ 0 ∷ 0 ∷ 0 ∷ 0 ∷ [])

-- the second value as it is, 3 x
abbrev pub second_not_monic : WrongImage
second_not_monic = wrong_image image_of_second 1 (0 ∷ 3 ∷ 0 ∷ 0 ∷ 0 ∷ 0 ∷ 0 ∷ 0 ∷ [])

-- 12 is said to be of the point
abbrev pub bad_point_named : WrongImage
bad_point_named = record { row = image_bad; found = refused_image (naming LIST_POINTS (fault NO_GOOD_POINT 0)) }

abbrev pub wrong_images : List WrongImage
wrong_images =
    image_not_monic ∷ not_greatest ∷ first_value ∷ bad_point_passes ∷ size_for_degree ∷ highest_first ∷ zero_for_the_image
    ∷ refused_by_the_first ∷ refused_by_the_second ∷ zero_first_for_the_image ∷ second_not_monic ∷ bad_point_named ∷ []

abbrev pub WrongFile : Type 0
WrongFile = WrongRecord FileRow Contents

abbrev pub wrong_file : FileRow → Contents → WrongFile
wrong_file r found = record { row = r; found = found }

-- bytes after the end are accepted
abbrev pub bytes_after_end : WrongFile
bytes_after_end = wrong_file file_byte_more (handed_back 0 0 17 [] [] [] [])

-- they are refused, and the modulus is left
abbrev pub modulus_left : WrongFile
modulus_left = wrong_file file_byte_more (handed_back 23 4 17 [] [] [] [])

-- 23 with the length of the file as its place
abbrev pub length_for_the_place : WrongFile
length_for_the_place = wrong_file file_byte_more (reader_refuses 23 5)

-- the two lists are exchanged
abbrev pub lists_exchanged : WrongFile
lists_exchanged = wrong_file file_example (handed_back 0 0 17 example_second example_first example_skeleton (at (0 ∷ [])))

-- the high byte first: 17 and 0 are 4352
abbrev pub high_byte_first : WrongFile
high_byte_first = wrong_file file_short (handed_back 0 0 4352 [] [] [] [])

-- the example file with other counts
abbrev pub example_counted : (first second skeleton points : ℕ) → Contents
example_counted first second skeleton points =
    record {
      fault = none;
      modulus = 17;
      first = padded 256 example_first;
      first_count = first;
      second = padded 256 example_second;
      second_count = second;
      skeleton = padded 32 example_skeleton;
      skeleton_count = skeleton;
      points = padded 96 (at (0 ∷ []));
      points_count = points;
    }

-- the points are counted, not their numbers
abbrev pub points_counted : WrongFile
points_counted = wrong_file file_example (example_counted 2 3 2 1)

-- the length of the first array in place of the count
abbrev pub room_for_the_count : WrongFile
room_for_the_count = wrong_file file_example (example_counted 256 3 2 3)

-- the limit is tested before the body: 25 for a key whose body is cut
abbrev pub limit_before_body : WrongFile
limit_before_body = wrong_file file_cut_key (reader_refuses 25 99)

-- an empty file is accepted
abbrev pub empty_accepted : WrongFile
empty_accepted = wrong_file file_empty (reader_refuses 0 0)

-- 21 of a key is said to be of the skeleton
abbrev pub cut_key_named : WrongFile
cut_key_named = wrong_file file_cut_key (refused_with (naming LIST_SKELETON (fault BODY_CUT 99)))

abbrev pub wrong_files : List WrongFile
wrong_files =
    bytes_after_end ∷ modulus_left ∷ length_for_the_place ∷ lists_exchanged ∷ high_byte_first ∷ points_counted ∷ room_for_the_count
    ∷ limit_before_body ∷ empty_accepted ∷ cut_key_named ∷ []
