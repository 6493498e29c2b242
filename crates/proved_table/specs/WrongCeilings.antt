-- The wrong results of a ceiling, of the candidate and of the Cancel key, each with the row that tells it from the right one.
use Rattle.std.specs.Prelude.{true, List, [], ◌∷◌}
use Rattle.field.specs.Numbers.{DOES_NOT_DIVIDE, CEILING_REACHED, LIST_WORK}
use Rattle.divisor.specs.Rule.{report}
use Rattle.proved_table.specs.Table.{p4, p10}
use Rattle.proved_table.specs.MoreRows.{divides_first}
use Rattle.proved_table.specs.CancelRows.{told, f_over_h}
use Rattle.proved_table.specs.CeilingRows.{counts₁₀, one_kept, p10_exact, p10_one_less, p10_of_first, p4_exact, p11_none}
use Rattle.proved_table.specs.CeilingRows.{first_one_less, key_exact, key_one_less, key_refused}
use Rattle.proved_table.specs.Wrong.{WrongCancel, named}
use Rattle.proved_table.specs.WrongResults.{WrongCandidate, wrong_candidate}
use Rattle.proved_table.specs.WrongCancels.{wrong_cancel, wrong_record}

-- looks counted as steps: P4's division of A takes one, and looks twice; and at no step allowed P11's only look gives 18
abbrev pub looks_counted : WrongCandidate
looks_counted = wrong_candidate p4 (report DOES_NOT_DIVIDE one_kept 0 2) []

abbrev pub look_reaches_ceiling : WrongCandidate
look_reaches_ceiling = wrong_candidate p11_none (report CEILING_REACHED one_kept 0 0) []

-- a look when the ceiling is reached taken for a further step: P4's second look, under one step
abbrev pub look_at_ceiling : WrongCandidate
look_at_ceiling = wrong_candidate p4_exact (report CEILING_REACHED one_kept 0 1) []

-- the ceiling for each division by itself: P10 takes three steps for A and three for B
abbrev pub ceiling_for_each : WrongCandidate
ceiling_for_each = wrong_candidate p10_of_first p10.found p10.terms

-- the ceiling not looked at
abbrev pub ceiling_ignored : WrongCandidate
ceiling_ignored = wrong_candidate p10_one_less p10.found p10.terms

-- reached when the last step that is due is taken
abbrev pub reached_too_early : WrongCandidate
reached_too_early = wrong_candidate p10_exact (report CEILING_REACHED counts₁₀ 0 6) []

-- 15 where 18 is due: P10 under five steps; and x and x + y under one, where 15 would come with a step more
abbrev pub fifteen_for_eighteen : WrongCandidate
fifteen_for_eighteen = wrong_candidate p10_one_less (report DOES_NOT_DIVIDE counts₁₀ 0 5) []

abbrev pub fifteen_before_eighteen : WrongCandidate
fifteen_before_eighteen = wrong_candidate first_one_less (report DOES_NOT_DIVIDE one_kept 0 1) []

-- the steps of A forgotten, where B is refused, and where it is accepted
abbrev pub first_steps_forgotten : WrongCandidate
first_steps_forgotten = wrong_candidate divides_first (report DOES_NOT_DIVIDE one_kept 0 1) []

abbrev pub first_steps_dropped : WrongCandidate
first_steps_dropped = wrong_candidate p10 (report 0 counts₁₀ 3 3) p10.terms

-- 18 with the steps that both divisions would take; with zeros for d and the points; of the work room; and with G written
abbrev pub steps_due_told : WrongCandidate
steps_due_told = wrong_candidate p10_one_less (report CEILING_REACHED counts₁₀ 0 6) []

abbrev pub zeros_with_eighteen : WrongCandidate
zeros_with_eighteen = wrong_candidate p10_one_less (report CEILING_REACHED (record { d = 0; bad = 0; unlucky = 0; kept = 0 }) 0 5) []

abbrev pub ceiling_names_room : WrongCandidate
ceiling_names_room = wrong_candidate p10_one_less (named LIST_WORK p10_one_less.found) []

abbrev pub ceiling_writes : WrongCandidate
ceiling_writes =
    record { row = p10_one_less; output_begins = 0 ∷ []; work_begins = []; found = p10_one_less.found; terms = p10.terms; clears = true }

abbrev pub wrong_ceilings : List WrongCandidate
wrong_ceilings =
    looks_counted ∷ look_reaches_ceiling ∷ look_at_ceiling ∷ ceiling_for_each ∷ ceiling_ignored ∷ reached_too_early
    ∷ fifteen_for_eighteen ∷ fifteen_before_eighteen ∷ first_steps_forgotten ∷ first_steps_dropped
    ∷ steps_due_told ∷ zeros_with_eighteen ∷ ceiling_names_room ∷ ceiling_writes
    ∷ []

-- the key: its ceiling not passed on; 15 where the candidate says 18; the steps of its own quotients counted too; the steps of N forgotten where D is
-- refused; no steps told
abbrev pub key_ignores_ceiling : WrongCancel
key_ignores_ceiling = wrong_cancel key_one_less f_over_h.found f_over_h.numerator f_over_h.denominator

abbrev pub key_says_fifteen : WrongCancel
key_says_fifteen = wrong_record key_one_less (told DOES_NOT_DIVIDE counts₁₀ 0 0 5)

abbrev pub quotients_counted : WrongCancel
quotients_counted = wrong_record f_over_h (told 0 counts₁₀ 3 3 12)

abbrev pub numerator_steps_forgotten : WrongCancel
numerator_steps_forgotten = wrong_record key_refused (told DOES_NOT_DIVIDE one_kept 0 0 1)

abbrev pub steps_not_told : WrongCancel
steps_not_told = wrong_record key_exact (told 0 counts₁₀ 3 3 0)

abbrev pub wrong_cancel_ceilings : List WrongCancel
wrong_cancel_ceilings = key_ignores_ceiling ∷ key_says_fifteen ∷ quotients_counted ∷ numerator_steps_forgotten ∷ steps_not_told ∷ []
