-- Rows beside P1 to P12, for wrong versions that P1 to P12 do not tell from the right one; and rows of the quotient, the image, the
-- reader, the writer and the picker. Modulo 17 unless said, z = w = 0.
use Rattle.std.specs.Prelude.{List, [], ◌∷◌, ◌++◌, ℕ, length, replicate}
use Rattle.field.specs.Numbers.{DOES_NOT_DIVIDE, NO_GOOD_POINT, NOT_WRITABLE, BUFFER_SHORT}
use Rattle.field.specs.Refusal.{fault, none}
use Rattle.field.specs.declared.faults.Fault.{Fault}
use Rattle.poly.specs.ImageCall.{image_call, refused_image}
use Rattle.divisor.specs.Rule.{report}
use Rattle.case_file.specs.Handed.{Contents, padded}
use Rattle.case_file.specs.Format.{today}
use Rattle.case_file.specs.Written.{records}
use Rattle.case_file.specs.WriteCall.{WriteCall, write_call, write_result}
use Rattle.case_file.specs.Reader.Examples.{example}
use Rattle.proved_table.specs.Row.{Row, QuotientRow, ImageRow, FileRow, WriteRow, PickRow}
use Rattle.proved_table.specs.Table.{key_xy, term_xy, at, row, E, F, K, A₂, B₂, A₁₁, image}

-- x and x + y, y = 0, skeleton x: the image is x, which divides the first and not the second: 15
abbrev pub divides_first : Row
divides_first =
    row 17 (term_xy 1 1 0 ∷ []) (term_xy 1 1 0 ∷ term_xy 1 0 1 ∷ []) (key_xy 1 0 ∷ []) (at (0 ∷ []))
    (report 15 (record { d = 1; bad = 0; unlucky = 0; kept = 1 }) 0 2) []

-- the two exchanged: x divides the second and not the first
abbrev pub divides_second : Row
divides_second =
    row 17 (term_xy 1 1 0 ∷ term_xy 1 0 1 ∷ []) (term_xy 1 1 0 ∷ []) (key_xy 1 0 ∷ []) (at (0 ∷ []))
    (report 15 (record { d = 1; bad = 0; unlucky = 0; kept = 1 }) 0 1) []

-- x² twice, y = 0, skeleton x², x, 1: x², the zero coefficients dropped
abbrev pub zeros_dropped : Row
zeros_dropped =
    row 17 (term_xy 1 2 0 ∷ []) (term_xy 1 2 0 ∷ []) (key_xy 2 0 ∷ key_xy 1 0 ∷ key_xy 0 0 ∷ []) (at (0 ∷ []))
    (report 0 (record { d = 2; bad = 0; unlucky = 0; kept = 1 }) 1 2) (term_xy 1 2 0 ∷ [])

-- (x + 1) (x y + 1), whose x-leading coefficient y is 0 at y = 0; y (x + 1), which is 0 there; and (x + 1) (x + 2)
abbrev pub lead_lost : List ℕ
lead_lost = term_xy 1 2 1 ∷ term_xy 1 1 1 ∷ term_xy 1 1 0 ∷ term_xy 1 0 0 ∷ []

abbrev pub value_lost : List ℕ
value_lost = term_xy 1 1 1 ∷ term_xy 1 0 1 ∷ []

abbrev pub lead_kept : List ℕ
lead_kept = term_xy 1 2 0 ∷ term_xy 3 1 0 ∷ term_xy 2 0 0 ∷ []

-- x + 1 at the points, with skeleton x, 1: d = 1, none bad, one kept, and so many steps
abbrev pub x_plus_one : List ℕ → List ℕ → List ℕ → ℕ → ℕ → Row
x_plus_one A B points unlucky steps =
    row 17 A B (key_xy 1 0 ∷ key_xy 0 0 ∷ []) (at points)
    (report 0 (record { d = 1; bad = 0; unlucky = unlucky; kept = 1 }) 2 steps) (term_xy 1 1 0 ∷ term_xy 1 0 0 ∷ [])

-- the teacher's case and its swap, y = 0: one x-leading coefficient alone is 0 there, that of the first and that of the second, so the point is good
abbrev pub first_lead_lost : Row
first_lead_lost = x_plus_one lead_lost lead_kept (0 ∷ []) 0 4

abbrev pub second_lead_lost : Row
second_lead_lost = x_plus_one lead_kept lead_lost (0 ∷ []) 0 4

-- y = 0 and y = 1, where the one value is 0 at y = 0 and the image the other's: the point is unlucky
abbrev pub first_value_lost : Row
first_value_lost = x_plus_one value_lost lead_kept (0 ∷ 1 ∷ []) 1 3

abbrev pub second_value_lost : Row
second_value_lost = x_plus_one lead_kept value_lost (0 ∷ 1 ∷ []) 1 3

abbrev pub more_rows : List Row
more_rows =
    divides_first ∷ divides_second ∷ zeros_dropped ∷ first_lead_lost ∷ second_lead_lost ∷ first_value_lost ∷ second_value_lost ∷ []

-- the quotient's terms, and 15
abbrev pub exact : ℕ → List ℕ → List ℕ → List ℕ → QuotientRow
exact p A B terms = record { modulus = p; first_list = A; second_list = B; found = record { fault = none; terms = length terms }; terms = terms }

abbrev pub not_exact : ℕ → List ℕ → List ℕ → QuotientRow
not_exact p A B = record { modulus = p; first_list = A; second_list = B; found = record { fault = fault DOES_NOT_DIVIDE 0; terms = 0 }; terms = [] }

-- F over E: x - y + 1
abbrev pub f_over_e : QuotientRow
f_over_e = exact 17 F E (term_xy 1 1 0 ∷ term_xy 16 0 1 ∷ term_xy 1 0 0 ∷ [])

-- E over F: E is not a multiple of F
abbrev pub e_over_f : QuotientRow
e_over_f = not_exact 17 E F

-- K over E: K - E is 3 x³ + 12 y² + 9 y, whose leading term E's does not divide
abbrev pub k_over_e : QuotientRow
k_over_e = not_exact 17 K E

-- (3 y x + 1) (x - y) over 3 y x + 1: x - y
abbrev pub a₂_over_factor : QuotientRow
a₂_over_factor = exact 17 A₂ (term_xy 3 1 1 ∷ term_xy 1 0 0 ∷ []) (term_xy 1 1 0 ∷ term_xy 16 0 1 ∷ [])

-- modulo 7, x + y over x + y⁷
abbrev pub equal_as_values : QuotientRow
equal_as_values = not_exact 7 A₁₁ (term_xy 1 1 0 ∷ term_xy 1 0 7 ∷ [])

abbrev pub quotients : List QuotientRow
quotients = f_over_e ∷ e_over_f ∷ k_over_e ∷ a₂_over_factor ∷ equal_as_values ∷ []

-- the polynomials of P2 at y = 0, where neither has x² any more: 12
abbrev pub image_bad : ImageRow
image_bad = record { call = image_call 17 A₂ B₂ (at (0 ∷ [])); found = refused_image (fault NO_GOOD_POINT 0) }

-- and at y = 1: 3 x + 1 made monic, x + 6
abbrev pub image_two : ImageRow
image_two = image A₂ B₂ 1 1 (6 ∷ 1 ∷ 0 ∷ 0 ∷ 0 ∷ 0 ∷ 0 ∷ 0 ∷ [])

-- K twice at y = 1: x³ + 12; it is the second of `images`
abbrev pub image_k : ImageRow
image_k = image K K 1 3 (12 ∷ 0 ∷ 0 ∷ 1 ∷ 0 ∷ 0 ∷ 0 ∷ 0 ∷ [])

-- 3 x and y at y = 0, where the second is 0: 3 x made monic
abbrev pub image_of_first : ImageRow
image_of_first = image (term_xy 3 1 0 ∷ []) (term_xy 1 0 1 ∷ []) 0 1 (0 ∷ 1 ∷ 0 ∷ 0 ∷ 0 ∷ 0 ∷ 0 ∷ 0 ∷ [])

-- the two exchanged: at y = 0 the first is 0
abbrev pub image_of_second : ImageRow
image_of_second = image (term_xy 1 0 1 ∷ []) (term_xy 3 1 0 ∷ []) 0 1 (0 ∷ 1 ∷ 0 ∷ 0 ∷ 0 ∷ 0 ∷ 0 ∷ 0 ∷ [])

-- one x-leading coefficient alone is 0 at y = 0, that of the first and that of the second: x + 1
abbrev pub image_first_lead_lost : ImageRow
image_first_lead_lost = image lead_lost lead_kept 0 1 (1 ∷ 1 ∷ 0 ∷ 0 ∷ 0 ∷ 0 ∷ 0 ∷ 0 ∷ [])

abbrev pub image_second_lead_lost : ImageRow
image_second_lead_lost = image lead_kept lead_lost 0 1 (1 ∷ 1 ∷ 0 ∷ 0 ∷ 0 ∷ 0 ∷ 0 ∷ 0 ∷ [])

abbrev pub more_images : List ImageRow
more_images = image_bad ∷ image_two ∷ image_of_first ∷ image_of_second ∷ image_first_lead_lost ∷ image_second_lead_lost ∷ []

-- what the reader hands back: the fault, the modulus, the four lists
abbrev pub with_fault : Fault → ℕ → List ℕ → List ℕ → List ℕ → List ℕ → Contents
with_fault f modulus first second skeleton points =
    record {
      fault = f;
      modulus = modulus;
      first = padded 256 first;
      first_count = length first;
      second = padded 256 second;
      second_count = length second;
      skeleton = padded 32 skeleton;
      skeleton_count = length skeleton;
      points = padded 96 points;
      points_count = length points;
    }

abbrev pub handed_back : ℕ → ℕ → ℕ → List ℕ → List ℕ → List ℕ → List ℕ → Contents
handed_back number place = with_fault (fault number place)

abbrev pub refused_with : Fault → Contents
refused_with f = with_fault f 0 [] [] [] []

abbrev pub reader_refuses : ℕ → ℕ → Contents
reader_refuses number place = refused_with (fault number place)

-- the lists of the example file
abbrev pub example_first : List ℕ
example_first = term_xy 1 2 0 ∷ term_xy 16 0 0 ∷ []

abbrev pub example_second : List ℕ
example_second = term_xy 1 2 0 ∷ term_xy 2 1 0 ∷ term_xy 1 0 0 ∷ []

abbrev pub example_skeleton : List ℕ
example_skeleton = key_xy 1 0 ∷ key_xy 0 0 ∷ []

abbrev pub file_example : FileRow
file_example = record { bytes = example; found = handed_back 0 0 17 example_first example_second example_skeleton (at (0 ∷ [])) }

-- a modulus and an end
abbrev pub file_short : FileRow
file_short = record { bytes = 1 ∷ 17 ∷ 0 ∷ 6 ∷ []; found = handed_back 0 0 17 [] [] [] [] }

-- and a byte after it: 23 at that byte
abbrev pub file_byte_more : FileRow
file_byte_more = record { bytes = 1 ∷ 17 ∷ 0 ∷ 6 ∷ 0 ∷ []; found = reader_refuses 23 4 }

-- 32 keys, and the kind byte of one more whose body is cut: 21 at that byte
abbrev pub file_cut_key : FileRow
file_cut_key = record { bytes = 1 ∷ 17 ∷ 0 ∷ records today 4 (replicate 32 (0 ∷ [])) ++ (4 ∷ []); found = reader_refuses 21 99 }

-- nothing: 24 at the length of the file
abbrev pub file_empty : FileRow
file_empty = record { bytes = []; found = reader_refuses 24 0 }

abbrev pub files : List FileRow
files = file_example ∷ file_short ∷ file_byte_more ∷ file_cut_key ∷ file_empty ∷ []

-- a call of the writer, and number, length and the buffer left; the place is 0
abbrev pub write_row : WriteCall → ℕ → ℕ → List ℕ → WriteRow
write_row c number length buffer = record { call = c; result = write_result (record { fault = fault number 0; length = length }) buffer }

-- a buffer of n bytes 9
abbrev pub nines : ℕ → List ℕ
nines n = replicate n 9

-- the lists of the example file
abbrev pub example_call : List ℕ → WriteCall
example_call buffer = write_call 17 example_first example_second example_skeleton (at (0 ∷ [])) buffer

-- in a buffer of two bytes more: the example file, and the two bytes as they were
abbrev pub write_example : WriteRow
write_example = write_row (example_call (nines 44)) 0 42 (example ++ (9 ∷ 9 ∷ []))

-- in one of a byte less: 27, and the buffer as it was
abbrev pub write_short : WriteRow
write_short = write_row (example_call (nines 41)) BUFFER_SHORT 0 (nines 41)

-- no lists, and a modulus that is not listed: a modulus and an end
abbrev pub write_bare : WriteRow
write_bare = write_row (write_call 15 [] [] [] [] (nines 4)) 0 4 (1 ∷ 15 ∷ 0 ∷ 6 ∷ [])

-- 33 keys, and two numbers of points, in no buffer: 26
abbrev pub write_keys : WriteRow
write_keys = write_row (write_call 17 [] [] (replicate 33 0) [] []) NOT_WRITABLE 0 []

abbrev pub write_half : WriteRow
write_half = write_row (write_call 17 [] [] [] (1 ∷ 2 ∷ []) []) NOT_WRITABLE 0 []

abbrev pub writes : List WriteRow
writes = write_example ∷ write_short ∷ write_bare ∷ write_keys ∷ write_half ∷ []

-- two lists, and the number and the terms that are picked
abbrev pub pick_row : List ℕ → List ℕ → ℕ → List ℕ → PickRow
pick_row A B list terms = record { first_list = A; second_list = B; list = list; terms = terms }

-- the leading parts of E, (y + 16) x³, and of A₂ and B₂, 3 y x²
abbrev pub leading_E : List ℕ
leading_E = term_xy 1 3 1 ∷ term_xy 16 3 0 ∷ []

abbrev pub leading_A₂ : List ℕ
leading_A₂ = term_xy 3 2 1 ∷ []

-- 1 + x, whose keys do not fall
abbrev pub rising : List ℕ
rising = term_xy 1 0 0 ∷ term_xy 1 1 0 ∷ []

abbrev pub pick_second : PickRow
pick_second = pick_row E A₂ 2 leading_A₂

abbrev pub pick_first : PickRow
pick_first = pick_row A₂ E 1 leading_A₂

-- as many terms: the first list's, also where the terms are the same
abbrev pub pick_tie : PickRow
pick_tie = pick_row E K 1 leading_E

abbrev pub pick_same_terms : PickRow
pick_same_terms = pick_row A₂ B₂ 1 leading_A₂

-- a list is refused: the empty head of the first
abbrev pub pick_refused : PickRow
pick_refused = pick_row A₂ rising 1 []

abbrev pub pick_first_refused : PickRow
pick_first_refused = pick_row rising A₂ 1 []

-- there is no modulus: 65535 x has a leading part
abbrev pub pick_large : PickRow
pick_large = pick_row E (term_xy 65535 1 0 ∷ []) 2 (term_xy 65535 1 0 ∷ [])

abbrev pub picks : List PickRow
picks = pick_second ∷ pick_first ∷ pick_tie ∷ pick_same_terms ∷ pick_refused ∷ pick_first_refused ∷ pick_large ∷ []
