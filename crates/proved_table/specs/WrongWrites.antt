-- The wrong results of the writer, each with the call that tells it from the right one. Modulo 17 unless said.
use Rattle.std.specs.Prelude.{List, [], ◌∷◌, ◌++◌, ℕ, replicate}
use Rattle.field.specs.Numbers.{MODULUS, NOT_WRITABLE, BUFFER_SHORT, LIST_SKELETON, LIST_OUTPUT}
use Rattle.field.specs.Refusal.{fault}
use Rattle.case_file.specs.Format.{today}
use Rattle.case_file.specs.Written.{records}
use Rattle.case_file.specs.WriteCall.{WriteCall, write_call, write_result}
use Rattle.proved_table.specs.Row.{WriteRow}
use Rattle.proved_table.specs.MoreRows.{write_row, nines}
use Rattle.proved_table.specs.Wrong.{naming}

-- no lists: the file is 1, 17, 0, 6
abbrev pub no_lists : List ℕ → WriteCall
no_lists buffer = write_call 17 [] [] [] [] buffer

-- the terms 1, 2 and the term 3: 19 bytes
abbrev pub three_terms : WriteCall
three_terms = write_call 17 (1 ∷ 2 ∷ []) (3 ∷ []) [] [] (nines 19)

-- n keys 0: 4 and 3 n bytes
abbrev pub keys_alone : ℕ → List ℕ → WriteCall
keys_alone n buffer = write_call 17 [] [] (replicate n 0) [] buffer

-- the end record is left out
abbrev pub end_left_out : WriteRow
end_left_out = write_row (no_lists (nines 4)) 0 3 (1 ∷ 17 ∷ 0 ∷ 9 ∷ [])

-- 27 for a buffer of three bytes, which are written all the same
abbrev pub writes_before_refusing : WriteRow
writes_before_refusing = write_row (no_lists (nines 3)) BUFFER_SHORT 0 (1 ∷ 17 ∷ 0 ∷ [])

-- what has room is written, and accepted
abbrev pub cut_to_the_room : WriteRow
cut_to_the_room = write_row (no_lists (nines 3)) 0 3 (1 ∷ 17 ∷ 0 ∷ [])

-- 27 with the length of the file
abbrev pub length_on_refusal : WriteRow
length_on_refusal = write_row (no_lists (nines 3)) BUFFER_SHORT 4 (nines 3)

-- 27 for a buffer that is as long as the file
abbrev pub no_byte_to_spare : WriteRow
no_byte_to_spare = write_row (no_lists (nines 4)) BUFFER_SHORT 0 (nines 4)

-- the bytes beyond the file are cleared
abbrev pub rest_cleared : WriteRow
rest_cleared = write_row (no_lists (replicate 6 1)) 0 4 (1 ∷ 17 ∷ 0 ∷ 6 ∷ 0 ∷ 0 ∷ [])

-- the length of the buffer in place of the file's
abbrev pub length_of_the_buffer : WriteRow
length_of_the_buffer = write_row (no_lists (nines 6)) 0 6 (1 ∷ 17 ∷ 0 ∷ 6 ∷ 9 ∷ 9 ∷ [])

-- the right record, and nothing is written
abbrev pub nothing_written : WriteRow
nothing_written = write_row (no_lists (nines 4)) 0 4 (nines 4)

-- the high byte of the modulus first
abbrev pub high_byte_written_first : WriteRow
high_byte_written_first = write_row (no_lists (nines 4)) 0 4 (1 ∷ 0 ∷ 17 ∷ 6 ∷ [])

-- 26 for empty lists
abbrev pub empty_lists_refused : WriteRow
empty_lists_refused = write_row (no_lists (nines 4)) NOT_WRITABLE 0 (nines 4)

-- the modulus is tested: 1 for 4
abbrev pub modulus_tested : WriteRow
modulus_tested = write_row (write_call 4 [] [] [] [] (nines 4)) MODULUS 0 (nines 4)

-- the terms of the second list as the first's
abbrev pub lists_exchanged_in_the_file : WriteRow
lists_exchanged_in_the_file =
    write_row three_terms 0 19 (1 ∷ 17 ∷ 0 ∷ 2 ∷ 3 ∷ 0 ∷ 0 ∷ 0 ∷ 3 ∷ 1 ∷ 0 ∷ 0 ∷ 0 ∷ 3 ∷ 2 ∷ 0 ∷ 0 ∷ 0 ∷ 6 ∷ [])

-- the terms of the first list in the other order
abbrev pub last_term_first : WriteRow
last_term_first = write_row three_terms 0 19 (1 ∷ 17 ∷ 0 ∷ 2 ∷ 2 ∷ 0 ∷ 0 ∷ 0 ∷ 2 ∷ 1 ∷ 0 ∷ 0 ∷ 0 ∷ 3 ∷ 3 ∷ 0 ∷ 0 ∷ 0 ∷ 6 ∷ [])

-- only the first term of each list
abbrev pub one_term_each : WriteRow
one_term_each = write_row three_terms 0 14 (1 ∷ 17 ∷ 0 ∷ 2 ∷ 1 ∷ 0 ∷ 0 ∷ 0 ∷ 3 ∷ 3 ∷ 0 ∷ 0 ∷ 0 ∷ 6 ∷ nines 5)

-- two bytes of a term: 16909060 is 4, 3, 2, 1
abbrev pub high_half_lost : WriteRow
high_half_lost = write_row (write_call 17 (16909060 ∷ []) [] [] [] (nines 9)) 0 9 (1 ∷ 17 ∷ 0 ∷ 2 ∷ 4 ∷ 3 ∷ 0 ∷ 0 ∷ 6 ∷ [])

-- 33 keys are accepted
abbrev pub thirty_three_keys : WriteRow
thirty_three_keys = write_row (keys_alone 33 (nines 103)) 0 103 (1 ∷ 17 ∷ 0 ∷ records today 4 (replicate 33 (0 ∷ [])) ++ (6 ∷ []))

-- 32 are refused
abbrev pub thirty_two_refused : WriteRow
thirty_two_refused = write_row (keys_alone 32 (nines 100)) NOT_WRITABLE 0 (nines 100)

-- the buffer is tested before the lists: 27 for 33 keys in no buffer
abbrev pub short_before_lists : WriteRow
short_before_lists = write_row (keys_alone 33 []) BUFFER_SHORT 0 []

-- 26 with the place of the key that is too many
abbrev pub place_of_the_key : WriteRow
place_of_the_key = record { call = keys_alone 33 []; result = write_result (record { fault = fault NOT_WRITABLE 32; length = 0 }) [] }

-- the limit of the first list is not tested: 27 for 257 terms in no buffer
abbrev pub first_not_tested : WriteRow
first_not_tested = write_row (write_call 17 (replicate 257 1) [] [] [] []) BUFFER_SHORT 0 []

-- nor the second's
abbrev pub second_not_tested : WriteRow
second_not_tested = write_row (write_call 17 [] (replicate 257 1) [] [] []) BUFFER_SHORT 0 []

-- nor that of the points: 27 for 33 points
abbrev pub points_not_tested : WriteRow
points_not_tested = write_row (write_call 17 [] [] [] (replicate 99 0) []) BUFFER_SHORT 0 []

-- the numbers of points are taken for points: 26 for 11 points
abbrev pub numbers_for_points : WriteRow
numbers_for_points = write_row (write_call 17 [] [] [] (replicate 33 0) (nines 81)) NOT_WRITABLE 0 (nines 81)

-- four numbers of points are accepted, and the one point written
abbrev pub half_a_point : WriteRow
half_a_point = write_row (write_call 17 [] [] [] (2 ∷ 3 ∷ 5 ∷ 7 ∷ []) (nines 11)) 0 11 (1 ∷ 17 ∷ 0 ∷ 5 ∷ 2 ∷ 0 ∷ 3 ∷ 0 ∷ 5 ∷ 0 ∷ 6 ∷ [])

-- the points before the keys
abbrev pub points_before_keys : WriteRow
points_before_keys =
    write_row (write_call 17 [] [] (8 ∷ []) (2 ∷ 3 ∷ 5 ∷ []) (nines 14)) 0 14 (1 ∷ 17 ∷ 0 ∷ 5 ∷ 2 ∷ 0 ∷ 3 ∷ 0 ∷ 5 ∷ 0 ∷ 4 ∷ 8 ∷ 0 ∷ 6 ∷ [])

-- 26 is said to be of the skeleton, and 27 of the output
abbrev pub unwritable_keys_named : WriteRow
unwritable_keys_named =
    record { call = keys_alone 33 []; result = write_result (record { fault = naming LIST_SKELETON (fault NOT_WRITABLE 0); length = 0 }) [] }

abbrev pub short_buffer_named : WriteRow
short_buffer_named =
    record { call = no_lists (nines 3); result = write_result (record { fault = naming LIST_OUTPUT (fault BUFFER_SHORT 0); length = 0 }) (nines 3) }

abbrev pub wrong_writes : List WriteRow
wrong_writes =
    end_left_out ∷ writes_before_refusing ∷ cut_to_the_room ∷ length_on_refusal ∷ no_byte_to_spare ∷ rest_cleared ∷ length_of_the_buffer
    ∷ nothing_written ∷ high_byte_written_first ∷ empty_lists_refused ∷ modulus_tested ∷ lists_exchanged_in_the_file ∷ last_term_first ∷ one_term_each
    ∷ high_half_lost ∷ thirty_three_keys ∷ thirty_two_refused ∷ short_before_lists ∷ place_of_the_key ∷ first_not_tested ∷ second_not_tested
    ∷ points_not_tested ∷ numbers_for_points ∷ half_a_point ∷ points_before_keys ∷ unwritable_keys_named ∷ short_buffer_named ∷ []
