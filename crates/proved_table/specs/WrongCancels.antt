-- The wrong results of the Cancel key, each with the row that tells it from the right one: wrong N' and D', then refusals, then what is told and left
-- behind.
use Rattle.std.specs.Prelude.{true, false, List, [], ◌∷◌, ℕ}
use Rattle.field.specs.Numbers.{MODULUS, LIST_SECOND, LIST_POINTS}
use Rattle.field.specs.Refusal.{fault}
use Rattle.divisor.specs.Candidate.{refused_record}
use Rattle.cancel.specs.declared.CancelRecord.{CancelRecord}
use Rattle.cancel.specs.CancelCall.{with_both}
use Rattle.proved_table.specs.Row.{CancelRow}
use Rattle.proved_table.specs.Table.{term_xy, H}
use Rattle.proved_table.specs.MoreRows.{f_over_e}
use Rattle.proved_table.specs.CancelRows.{told, f_over_h, e_over_h, y_stays, y_goes, k_over_k, none_good, none_solves, several_solve}
use Rattle.proved_table.specs.CancelRows.{numerator_divided, denominator_divided}
use Rattle.proved_table.specs.Wrong.{WrongCancel, named}

-- a row, a record, and N' and D', whatever the rooms hold; the work room is cleared
abbrev pub wrong_cancel : CancelRow → CancelRecord → List ℕ → List ℕ → WrongCancel
wrong_cancel r found numerator denominator =
    record {
      row = r;
      numerator_begins = [];
      denominator_begins = [];
      work_begins = [];
      found = found;
      numerator = numerator;
      denominator = denominator;
      clears = true;
    }

-- the row's record, with other N' and D'
abbrev pub wrong_terms : CancelRow → List ℕ → List ℕ → WrongCancel
wrong_terms r numerator denominator = wrong_cancel r r.found numerator denominator

-- the row's N' and D', with another record
abbrev pub wrong_record : CancelRow → CancelRecord → WrongCancel
wrong_record r found = wrong_cancel r found r.numerator r.denominator

-- the row's record, with what is written into two outputs that begin with these numbers
abbrev pub wrong_outputs : CancelRow → List ℕ → List ℕ → List ℕ → WrongCancel
wrong_outputs r begins numerator denominator =
    record {
      row = r;
      numerator_begins = begins;
      denominator_begins = begins;
      work_begins = [];
      found = r.found;
      numerator = numerator;
      denominator = denominator;
      clears = true;
    }

-- the right result, and a work room that begins with 1 as lent
abbrev pub wrong_room : CancelRow → WrongCancel
wrong_room r =
    record {
      row = r;
      numerator_begins = [];
      denominator_begins = [];
      work_begins = 1 ∷ [];
      found = r.found;
      numerator = r.numerator;
      denominator = r.denominator;
      clears = false;
    }

-- 5 (x - y + 1); 5 (x + y + 1), which is 5 H over E; and 7 F
abbrev pub fivefold : List ℕ
fivefold = term_xy 5 1 0 ∷ term_xy 12 0 1 ∷ term_xy 5 0 0 ∷ []

abbrev pub h₅_over_e : List ℕ
h₅_over_e = term_xy 5 1 0 ∷ term_xy 5 0 1 ∷ term_xy 5 0 0 ∷ []

abbrev pub F₇ : List ℕ
F₇ = term_xy 7 4 1 ∷ term_xy 10 4 0 ∷ term_xy 10 3 2 ∷ term_xy 14 3 1 ∷ term_xy 10 3 0 ∷ term_xy 3 1 1 ∷ term_xy 14 0 2 ∷ term_xy 3 0 1 ∷ []

-- D' is made monic and N' = N / G is not scaled with it
abbrev pub numerator_not_scaled : WrongCancel
numerator_not_scaled = wrong_terms f_over_h f_over_e.terms f_over_h.denominator

-- N' is scaled by c and not by 1 / c
abbrev pub scaled_by_c : WrongCancel
scaled_by_c = wrong_terms f_over_h fivefold f_over_h.denominator

-- D' is not made monic: N / G and D / G
abbrev pub not_made_monic : WrongCancel
not_made_monic = wrong_terms f_over_h f_over_e.terms h₅_over_e

-- N is divided and D is not; D is and N is not
abbrev pub denominator_not_divided : WrongCancel
denominator_not_divided = wrong_cancel f_over_h (told 0 (record { d = 3; bad = 1; unlucky = 1; kept = 2 }) 3 7 6) f_over_h.numerator H

abbrev pub numerator_not_divided : WrongCancel
numerator_not_divided = wrong_cancel f_over_h (told 0 (record { d = 3; bad = 1; unlucky = 1; kept = 2 }) 8 3 6) F₇ f_over_h.denominator

-- 1 is struck out whatever the candidate finds, with d = 0; and with the right d
abbrev pub one_struck_out : WrongCancel
one_struck_out = wrong_cancel f_over_h (told 0 (record { d = 0; bad = 1; unlucky = 1; kept = 2 }) 8 7 15) F₇ H

abbrev pub one_struck_out_again : WrongCancel
one_struck_out_again = wrong_cancel f_over_h (told 0 (record { d = 3; bad = 1; unlucky = 1; kept = 2 }) 8 7 6) F₇ H

-- what the candidate has not found is struck out too: y, and y + 2 of K
abbrev pub y_struck_out_too : WrongCancel
y_struck_out_too = wrong_terms y_stays y_goes.numerator y_goes.denominator

abbrev pub all_struck_out : WrongCancel
all_struck_out = wrong_cancel k_over_k (told 0 (record { d = 3; bad = 0; unlucky = 0; kept = 3 }) 1 1 2) (term_xy 1 0 0 ∷ []) (term_xy 1 0 0 ∷ [])

-- where d is 0 nothing is struck out
abbrev pub y_left : WrongCancel
y_left = wrong_terms y_goes y_stays.numerator y_stays.denominator

-- the terms of N' with the lowest first
abbrev pub lowest_first : WrongCancel
lowest_first = wrong_terms f_over_h (term_xy 7 0 0 ∷ term_xy 10 0 1 ∷ term_xy 7 1 0 ∷ []) f_over_h.denominator

-- N' in the denominator's output and D' in the numerator's
abbrev pub outputs_exchanged : WrongCancel
outputs_exchanged = wrong_terms f_over_h f_over_h.denominator f_over_h.numerator

-- accepted where 15 is due: 1 is struck out where x does not divide both; and x is, and the remainder y dropped
abbrev pub fifteen_accepted : WrongCancel
fifteen_accepted =
    wrong_cancel numerator_divided (told 0 (record { d = 1; bad = 0; unlucky = 0; kept = 1 }) 1 2 2) (term_xy 1 1 0 ∷ []) (term_xy 1 1 0 ∷ term_xy 1 0 1 ∷ [])

abbrev pub remainder_dropped : WrongCancel
remainder_dropped =
    wrong_cancel numerator_divided (told 0 (record { d = 1; bad = 0; unlucky = 0; kept = 1 }) 1 1 2) (term_xy 1 0 0 ∷ []) (term_xy 1 0 0 ∷ [])

-- 15 where the candidate accepts
abbrev pub accepted_refused : WrongCancel
accepted_refused = wrong_cancel f_over_h (told 15 (record { d = 3; bad = 1; unlucky = 1; kept = 2 }) 0 0 6) [] []

-- refuses everything by the first line of the table and touches nothing: 17 is listed
abbrev pub refuses_the_modulus : WrongCancel
refuses_the_modulus =
    record {
      row = f_over_h;
      numerator_begins = [];
      denominator_begins = [];
      work_begins = [];
      found = with_both (refused_record (fault MODULUS 0)) 0 0;
      numerator = [];
      denominator = [];
      clears = false;
    }

-- 12, 13 and 14 told as 15: there is no common divisor
abbrev pub told_fifteen_for_12 : WrongCancel
told_fifteen_for_12 = wrong_record none_good (told 15 (record { d = 0; bad = 1; unlucky = 0; kept = 0 }) 0 0 0)

abbrev pub told_fifteen_for_13 : WrongCancel
told_fifteen_for_13 = wrong_record none_solves (told 15 (record { d = 3; bad = 0; unlucky = 0; kept = 2 }) 0 0 0)

abbrev pub told_fifteen_for_14 : WrongCancel
told_fifteen_for_14 = wrong_record several_solve (told 15 (record { d = 3; bad = 0; unlucky = 0; kept = 1 }) 0 0 0)

-- 15 told as 13
abbrev pub told_thirteen_for_15 : WrongCancel
told_thirteen_for_15 = wrong_record numerator_divided (told 13 (record { d = 1; bad = 0; unlucky = 0; kept = 1 }) 0 0 2)

-- 15 with zeros for d and the points, as where the table refuses
abbrev pub zeros_told : WrongCancel
zeros_told = wrong_record numerator_divided (told 15 (record { d = 0; bad = 0; unlucky = 0; kept = 0 }) 0 0 2)

-- 15, and the one quotient that there is written into an output that began with 0: N' = 1 where x divides N alone, D' = 1 where it divides D alone
abbrev pub refusal_writes_numerator : WrongCancel
refusal_writes_numerator = wrong_outputs numerator_divided (0 ∷ []) (term_xy 1 0 0 ∷ []) []

abbrev pub refusal_writes_denominator : WrongCancel
refusal_writes_denominator = wrong_outputs denominator_divided (0 ∷ []) [] (term_xy 1 0 0 ∷ [])

-- or counted
abbrev pub refusal_counts_numerator : WrongCancel
refusal_counts_numerator = wrong_record numerator_divided (told 15 (record { d = 1; bad = 0; unlucky = 0; kept = 1 }) 1 0 2)

abbrev pub refusal_counts_denominator : WrongCancel
refusal_counts_denominator = wrong_record denominator_divided (told 15 (record { d = 1; bad = 0; unlucky = 0; kept = 1 }) 0 1 1)

-- the two counts exchanged
abbrev pub counts_exchanged : WrongCancel
counts_exchanged = wrong_record e_over_h (told 0 (record { d = 3; bad = 0; unlucky = 0; kept = 2 }) 3 1 4)

-- the divisor's terms counted in place of those of N'
abbrev pub divisor_counted : WrongCancel
divisor_counted = wrong_record e_over_h (told 0 (record { d = 3; bad = 0; unlucky = 0; kept = 2 }) 3 3 4)

-- d is what is left in x, 1, and not what is struck out
abbrev pub degree_left : WrongCancel
degree_left = wrong_record f_over_h (told 0 (record { d = 1; bad = 1; unlucky = 1; kept = 2 }) 3 3 6)

-- only N' is written, and only D', where the outputs began with 0
abbrev pub denominator_not_written : WrongCancel
denominator_not_written = wrong_outputs f_over_h (0 ∷ []) f_over_h.numerator []

abbrev pub numerator_not_written : WrongCancel
numerator_not_written = wrong_outputs f_over_h (0 ∷ []) [] f_over_h.denominator

-- the candidate is lent the numerator's output, and the rest of E is left there behind N'
abbrev pub divisor_left_behind : WrongCancel
divisor_left_behind =
    wrong_outputs e_over_h (0 ∷ 0 ∷ 0 ∷ []) (term_xy 7 0 0 ∷ term_xy 16 3 0 ∷ term_xy 15 0 1 ∷ []) e_over_h.denominator

-- the work room left as lent, on acceptance and with 15
abbrev pub room_left : WrongCancel
room_left = wrong_room f_over_h

abbrev pub refusal_leaves_room : WrongCancel
refusal_leaves_room = wrong_room numerator_divided

-- the row's result, said to be of another list
abbrev pub wrong_list : CancelRow → ℕ → WrongCancel
wrong_list r list = wrong_record r (with_both (named list r.divisor.found) r.found.numerator r.found.denominator)

-- 12 is said to be of the points, and 15 of the denominator
abbrev pub bad_points_named : WrongCancel
bad_points_named = wrong_list none_good LIST_POINTS

abbrev pub undivided_denominator_named : WrongCancel
undivided_denominator_named = wrong_list numerator_divided LIST_SECOND

abbrev pub wrong_cancels : List WrongCancel
wrong_cancels =
    numerator_not_scaled ∷ scaled_by_c ∷ not_made_monic ∷ denominator_not_divided ∷ numerator_not_divided ∷ one_struck_out ∷ one_struck_out_again
    ∷ y_struck_out_too ∷ all_struck_out ∷ y_left ∷ lowest_first ∷ outputs_exchanged
    ∷ fifteen_accepted ∷ remainder_dropped ∷ accepted_refused ∷ refuses_the_modulus
    ∷ told_fifteen_for_12 ∷ told_fifteen_for_13 ∷ told_fifteen_for_14 ∷ told_thirteen_for_15 ∷ zeros_told
    ∷ refusal_writes_numerator ∷ refusal_writes_denominator ∷ refusal_counts_numerator ∷ refusal_counts_denominator
    ∷ counts_exchanged ∷ divisor_counted ∷ degree_left ∷ denominator_not_written ∷ numerator_not_written ∷ divisor_left_behind
    ∷ room_left ∷ refusal_leaves_room ∷ bad_points_named ∷ undivided_denominator_named
    ∷ []
