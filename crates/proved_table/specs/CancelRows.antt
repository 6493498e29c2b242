-- Rows of the Cancel key, modulo 17, z = w = 0: N, D and what the candidate answers to them, and what is handed out.
use Rattle.std.specs.Prelude.{List, [], ◌∷◌, ℕ}
use Rattle.divisor.specs.Rule.{Counts, report}
use Rattle.cancel.specs.declared.CancelRecord.{CancelRecord}
use Rattle.cancel.specs.CancelCall.{with_both}
use Rattle.proved_table.specs.Row.{Row, CancelRow}
use Rattle.proved_table.specs.Table.{key_xy, term_xy, at, row, E, F, p2, p7, p8, p9}
use Rattle.proved_table.specs.MoreRows.{divides_first, divides_second}

-- the key's record: the number, what is counted, the terms of N' and of D', and the steps
abbrev pub told : ℕ → Counts → ℕ → ℕ → ℕ → CancelRecord
told number counts numerator denominator steps = with_both (report number counts 0 steps) numerator denominator

-- the candidate's row, c, the record, N' and D'
abbrev pub cancels_to : Row → ℕ → CancelRecord → List ℕ → List ℕ → CancelRow
cancels_to r c found numerator denominator = record { divisor = r; factor = c; found = found; numerator = numerator; denominator = denominator }

-- 5 H, which is 5 (x + y + 1) E
abbrev pub H₅ : List ℕ
H₅ = term_xy 5 4 1 ∷ term_xy 12 4 0 ∷ term_xy 5 3 2 ∷ term_xy 12 3 0 ∷ term_xy 7 1 1 ∷ term_xy 7 0 2 ∷ term_xy 7 0 1 ∷ []

-- F over 5 H, the points and the skeleton as P10 has them: E is struck out, c is 5, and 7 (x - y + 1) over x + y + 1 is left: 7 is 1 / 5
abbrev pub f_over_h : CancelRow
f_over_h =
    cancels_to
    (row 17 F H₅ (key_xy 3 1 ∷ key_xy 3 0 ∷ key_xy 0 1 ∷ []) (at (1 ∷ 0 ∷ 5 ∷ 2 ∷ [])) (report 0 (record { d = 3; bad = 1; unlucky = 1; kept = 2 }) 3 6) E)
    5 (told 0 (record { d = 3; bad = 1; unlucky = 1; kept = 2 }) 3 3 6)
    (term_xy 7 1 0 ∷ term_xy 10 0 1 ∷ term_xy 7 0 0 ∷ []) (term_xy 1 1 0 ∷ term_xy 1 0 1 ∷ term_xy 1 0 0 ∷ [])

-- E over 5 H, y = 5 and y = 2: 7 over x + y + 1. What is struck out has more terms than N'.
abbrev pub e_over_h : CancelRow
e_over_h =
    cancels_to (row 17 E H₅ (key_xy 3 1 ∷ key_xy 3 0 ∷ key_xy 0 1 ∷ []) (at (5 ∷ 2 ∷ [])) (report 0 (record { d = 3; bad = 0; unlucky = 0; kept = 2 }) 3 4) E)
    5 (told 0 (record { d = 3; bad = 0; unlucky = 0; kept = 2 }) 1 3 4)
    (term_xy 7 0 0 ∷ []) (term_xy 1 1 0 ∷ term_xy 1 0 1 ∷ term_xy 1 0 0 ∷ [])

-- y x over 3 y (x + 2), y = 1. The two share a factor without x alone, d is 0, and the skeleton decides whether it is struck out.
abbrev pub over_y : ℕ → List ℕ → List ℕ → List ℕ → CancelRow
over_y k divisor numerator denominator =
    cancels_to
    (row 17 (term_xy 1 1 1 ∷ []) (term_xy 3 1 1 ∷ term_xy 6 0 1 ∷ []) (k ∷ []) (at (1 ∷ [])) (report 0 (record { d = 0; bad = 0; unlucky = 0; kept = 1 }) 1 3)
    divisor)
    3 (told 0 (record { d = 0; bad = 0; unlucky = 0; kept = 1 }) 1 2 3) numerator denominator

-- with the skeleton 1 it is not: 1 is struck out, and 6 y x over y (x + 2) is left
abbrev pub y_stays : CancelRow
y_stays = over_y (key_xy 0 0) (term_xy 1 0 0 ∷ []) (term_xy 6 1 1 ∷ []) (term_xy 1 1 1 ∷ term_xy 2 0 1 ∷ [])

-- with the skeleton y it is: 6 x over x + 2
abbrev pub y_goes : CancelRow
y_goes = over_y (key_xy 0 1) (term_xy 1 0 1 ∷ []) (term_xy 6 1 0 ∷ []) (term_xy 1 1 0 ∷ term_xy 2 0 0 ∷ [])

abbrev pub y_plus_two : List ℕ
y_plus_two = term_xy 1 0 1 ∷ term_xy 2 0 0 ∷ []

-- K over K as P7 has it: x³ + 12 y is struck out, and y + 2 over y + 2 is left, not 1 over 1
abbrev pub k_over_k : CancelRow
k_over_k = cancels_to p7 1 (told 0 (record { d = 3; bad = 0; unlucky = 0; kept = 3 }) 2 2 4) y_plus_two y_plus_two

-- the candidate's 12 to 15 with both counts 0: P2, P8, P9, and x and x + y, of which x divides the one and not the other
abbrev pub refuses : Row → ℕ → Counts → ℕ → CancelRow
refuses r number counts steps = cancels_to r 0 (told number counts 0 0 steps) [] []

abbrev pub none_good : CancelRow
none_good = refuses p2 12 (record { d = 0; bad = 1; unlucky = 0; kept = 0 }) 0

abbrev pub none_solves : CancelRow
none_solves = refuses p8 13 (record { d = 3; bad = 0; unlucky = 0; kept = 2 }) 0

abbrev pub several_solve : CancelRow
several_solve = refuses p9 14 (record { d = 3; bad = 0; unlucky = 0; kept = 1 }) 0

abbrev pub numerator_divided : CancelRow
numerator_divided = refuses divides_first 15 (record { d = 1; bad = 0; unlucky = 0; kept = 1 }) 2

abbrev pub denominator_divided : CancelRow
denominator_divided = refuses divides_second 15 (record { d = 1; bad = 0; unlucky = 0; kept = 1 }) 1

abbrev pub cancels : List CancelRow
cancels =
    f_over_h ∷ e_over_h ∷ y_stays ∷ y_goes ∷ k_over_k ∷ none_good ∷ none_solves ∷ several_solve ∷ numerator_divided ∷ denominator_divided ∷ []
