-- The wrong results of the candidate, each with the row that tells it from the right one: first the versions that the specification forbids, then the
-- shortcuts that it names, then further ones.
use Rattle.std.specs.Prelude.{true, false, List, [], ◌∷◌, ◌++◌, ℕ}
use Rattle.divisor.specs.declared.CandidateRecord.{CandidateRecord}
use Rattle.field.specs.Numbers.{MODULUS, LIST_FIRST, LIST_POINTS, LIST_OUTPUT}
use Rattle.field.specs.Refusal.{fault}
use Rattle.divisor.specs.Rule.{report}
use Rattle.divisor.specs.Candidate.{refused_record}
use Rattle.proved_table.specs.Row.{Row}
use Rattle.proved_table.specs.Table.{term_xy, p1, p2, p4, p6, p7_terms, p10, p11, p12}
use Rattle.proved_table.specs.MoreRows.{divides_first, divides_second, zeros_dropped, first_lead_lost, second_lead_lost, first_value_lost}
use Rattle.proved_table.specs.Wrong.{Wrong, named}

abbrev pub WrongCandidate : Type 0
WrongCandidate = Wrong Row CandidateRecord

-- a row, a record and terms, whatever the rooms hold; the work room is cleared
abbrev pub wrong_candidate : Row → CandidateRecord → List ℕ → WrongCandidate
wrong_candidate r found terms = record { row = r; output_begins = []; work_begins = []; found = found; terms = terms; clears = true }

-- refuses everything, as if all points were bad: P1 has a good point
abbrev pub refuses_all : WrongCandidate
refuses_all = wrong_candidate p1 (report 12 (record { d = 0; bad = 1; unlucky = 0; kept = 0 }) 0 0) []

-- refuses everything by the first line of the table and touches nothing: 17 is listed
abbrev pub refuses_the_modulus : WrongCandidate
refuses_the_modulus = record { row = p1; output_begins = []; work_begins = []; found = refused_record (fault MODULUS 0); terms = []; clears = false }

-- always gives 1, with d and the counts of the points right: P1 has x + 1
abbrev pub always_one : WrongCandidate
always_one = wrong_candidate p1 (report 0 (record { d = 1; bad = 0; unlucky = 0; kept = 1 }) 1 4) (term_xy 1 0 0 ∷ [])

-- writes nothing: P1's record, and an output that begins with 0 as lent
abbrev pub writes_nothing : WrongCandidate
writes_nothing = record { row = p1; output_begins = 0 ∷ []; work_begins = []; found = p1.found; terms = []; clears = true }

-- writes the first term only: the second number of the output is 0 as lent
abbrev pub writes_one_term : WrongCandidate
writes_one_term = record { row = p1; output_begins = 0 ∷ 0 ∷ []; work_begins = []; found = p1.found; terms = term_xy 1 1 0 ∷ []; clears = true }

-- writes past the count: the third number of the output was 0
abbrev pub writes_past_the_count : WrongCandidate
writes_past_the_count =
    record { row = p1; output_begins = 0 ∷ 0 ∷ 0 ∷ []; work_begins = []; found = p1.found; terms = p1.terms ++ (1 ∷ []); clears = true }

-- uses only the first kept point: of P10 that is y = 5, which leaves several solutions, as in P9
abbrev pub first_kept_point : WrongCandidate
first_kept_point = wrong_candidate p10 (report 14 (record { d = 3; bad = 1; unlucky = 1; kept = 2 }) 0 0) []

-- divides only A, in place of B too: x divides x, and is taken
abbrev pub divides_only_first : WrongCandidate
divides_only_first = wrong_candidate divides_first (report 0 (record { d = 1; bad = 0; unlucky = 0; kept = 1 }) 1 2) (term_xy 1 1 0 ∷ [])

-- divides only B: the same with the two exchanged
abbrev pub divides_only_second : WrongCandidate
divides_only_second = wrong_candidate divides_second (report 0 (record { d = 1; bad = 0; unlucky = 0; kept = 1 }) 1 2) (term_xy 1 1 0 ∷ [])

-- invented point counts: P10's divisor, with all four points said to be kept
abbrev pub all_points_kept : WrongCandidate
all_points_kept = wrong_candidate p10 (report 0 (record { d = 3; bad = 0; unlucky = 0; kept = 4 }) 3 6) p10.terms

-- invented point counts: P10's divisor, with bad and unlucky points counted as one
abbrev pub unlucky_counted_bad : WrongCandidate
unlucky_counted_bad = wrong_candidate p10 (report 0 (record { d = 3; bad = 2; unlucky = 0; kept = 2 }) 3 6) p10.terms

-- invented point counts: P10's divisor, with one unlucky point more than there are points
abbrev pub one_point_more : WrongCandidate
one_point_more = wrong_candidate p10 (report 0 (record { d = 3; bad = 1; unlucky = 2; kept = 2 }) 3 6) p10.terms

-- every multiplier fixed at 1: P10 then has no solution
abbrev pub multipliers_one : WrongCandidate
multipliers_one = wrong_candidate p10 (report 13 (record { d = 3; bad = 1; unlucky = 1; kept = 2 }) 0 0) []

-- a determined system taken for a proof: P4's is determined by the image x
abbrev pub determined_accepted : WrongCandidate
determined_accepted = wrong_candidate p4 (report 0 (record { d = 1; bad = 0; unlucky = 0; kept = 1 }) 1 0) (term_xy 1 1 0 ∷ [])

-- the first degree met is kept: P10 meets degree 4 at y = 0 and keeps that point alone; the skeleton has no x⁴, so there is no solution
abbrev pub first_degree_met : WrongCandidate
first_degree_met = wrong_candidate p10 (report 13 (record { d = 4; bad = 1; unlucky = 2; kept = 1 }) 0 0) []

-- equations counted: P6 has no fewer than unknowns. With the last multiplier 0 the solution is (y - 3) (x³ + 12 y), which does not divide K.
abbrev pub equations_counted : WrongCandidate
equations_counted = wrong_candidate p6 (report 15 (record { d = 3; bad = 0; unlucky = 0; kept = 3 }) 0 1) []

-- the same with the first coefficient 0: the solution is x³ + 12 y, which divides K
abbrev pub equations_counted_again : WrongCandidate
equations_counted_again = wrong_candidate p6 (report 0 (record { d = 3; bad = 0; unlucky = 0; kept = 3 }) 2 4) p7_terms

-- division tested as values: modulo 7 x + y⁷ has the values of x + y everywhere, and P11 takes it
abbrev pub division_as_values : WrongCandidate
division_as_values = wrong_candidate p11 (report 0 (record { d = 1; bad = 0; unlucky = 0; kept = 1 }) 2 0) (term_xy 1 1 0 ∷ term_xy 1 0 7 ∷ [])

-- not divided by its leading coefficient: at y = 2 the equation of P12 gives 9 y
abbrev pub not_monic : WrongCandidate
not_monic = wrong_candidate p12 (report 0 (record { d = 0; bad = 0; unlucky = 0; kept = 1 }) 1 2) (term_xy 9 0 1 ∷ [])

-- zero coefficients kept as terms
abbrev pub zeros_kept : WrongCandidate
zeros_kept =
    wrong_candidate zeros_dropped (report 0 (record { d = 2; bad = 0; unlucky = 0; kept = 1 }) 3 2) (term_xy 1 2 0 ∷ term_xy 0 1 0 ∷ term_xy 0 0 0 ∷ [])

-- the work room left as lent on refusal, where it begins with 1: P4's record
abbrev pub work_room_left : WrongCandidate
work_room_left = record { row = p4; output_begins = []; work_begins = 1 ∷ []; found = p4.found; terms = []; clears = false }

-- P4's record, and the terms of what was refused in an output that began with 0
abbrev pub refusal_writes : WrongCandidate
refusal_writes =
    record { row = p4; output_begins = 0 ∷ []; work_begins = []; found = p4.found; terms = term_xy 1 1 0 ∷ []; clears = true }

-- 12 with no bad point counted: P2's point is bad
abbrev pub bad_not_counted : WrongCandidate
bad_not_counted = wrong_candidate p2 (report 12 (record { d = 0; bad = 0; unlucky = 0; kept = 0 }) 0 0) []

-- a point is bad where the x-leading coefficient of the first list is 0, whatever the second has there
abbrev pub bad_by_the_first : WrongCandidate
bad_by_the_first = wrong_candidate first_lead_lost (report 12 (record { d = 0; bad = 1; unlucky = 0; kept = 0 }) 0 0) []

-- where that of the second is 0
abbrev pub bad_by_the_second : WrongCandidate
bad_by_the_second = wrong_candidate second_lead_lost (report 12 (record { d = 0; bad = 1; unlucky = 0; kept = 0 }) 0 0) []

-- a point where the first value is 0 is called bad; the divisor is right
abbrev pub zero_called_bad : WrongCandidate
zero_called_bad = wrong_candidate first_value_lost (report 0 (record { d = 1; bad = 1; unlucky = 0; kept = 1 }) 2 3) first_value_lost.terms

-- there the image is said to be 1: d = 0 at y = 0, where the equations of x and 1 give 1
abbrev pub zero_gives_one : WrongCandidate
zero_gives_one = wrong_candidate first_value_lost (report 0 (record { d = 0; bad = 0; unlucky = 1; kept = 1 }) 1 5) (term_xy 1 0 0 ∷ [])

-- the row's result, said to be of another list
abbrev pub wrong_list : Row → ℕ → WrongCandidate
wrong_list r list = wrong_candidate r (named list r.found) r.terms

-- 12 is said to be of the points, 15 of the first list, and acceptance of the output
abbrev pub bad_points_named : WrongCandidate
bad_points_named = wrong_list p2 LIST_POINTS

abbrev pub undivided_list_named : WrongCandidate
undivided_list_named = wrong_list p11 LIST_FIRST

abbrev pub accepted_output_named : WrongCandidate
accepted_output_named = wrong_list p1 LIST_OUTPUT

abbrev pub wrong_results : List WrongCandidate
wrong_results =
    refuses_all ∷ refuses_the_modulus ∷ always_one ∷ writes_nothing ∷ writes_one_term ∷ writes_past_the_count ∷ first_kept_point
    ∷ divides_only_first ∷ divides_only_second ∷ all_points_kept ∷ unlucky_counted_bad ∷ one_point_more
    ∷ multipliers_one ∷ determined_accepted ∷ first_degree_met ∷ equations_counted ∷ equations_counted_again ∷ division_as_values
    ∷ not_monic ∷ zeros_kept ∷ work_room_left ∷ refusal_writes ∷ bad_not_counted
    ∷ bad_by_the_first ∷ bad_by_the_second ∷ zero_called_bad ∷ zero_gives_one
    ∷ bad_points_named ∷ undivided_list_named ∷ accepted_output_named
    ∷ []
