-- Rows at and below the exact ceiling, which is the steps of both divisions together; and with the two lists exchanged. Modulo 17 unless said, z = w = 0.
use Rattle.std.specs.Prelude.{List, [], ◌∷◌, ℕ}
use Rattle.field.specs.Numbers.{DOES_NOT_DIVIDE, CEILING_REACHED}
use Rattle.divisor.specs.declared.CandidateRecord.{CandidateRecord}
use Rattle.divisor.specs.Rule.{Counts, report}
use Rattle.proved_table.specs.Row.{Row, CancelRow}
use Rattle.proved_table.specs.Table.{row_under, p2, p4, p6, p8, p10, p11}
use Rattle.proved_table.specs.MoreRows.{divides_first, divides_second}
use Rattle.proved_table.specs.CancelRows.{cancels_to, refuses, f_over_h}

-- what a row asks under another ceiling
abbrev pub under : ℕ → Row → CandidateRecord → List ℕ → Row
under ceiling r found terms =
    row_under ceiling r.modulus r.first_list r.second_list r.skeleton r.points found terms

-- the row's own answer
abbrev pub same_under : ℕ → Row → Row
same_under ceiling r = under ceiling r r.found r.terms

-- what is counted of P10's points, and of one point that is kept, with d = 1
abbrev pub counts₁₀ : Counts
counts₁₀ = record { d = 3; bad = 1; unlucky = 1; kept = 2 }

abbrev pub one_kept : Counts
one_kept = record { d = 1; bad = 0; unlucky = 0; kept = 1 }

-- 18 after as many steps as the ceiling
abbrev pub cut_off : ℕ → Row → Counts → Row
cut_off ceiling r counts = under ceiling r (report CEILING_REACHED counts 0 ceiling) []

-- P10 takes three steps for A and three for B. Six are enough; five are not, nor three, when B's first term is due, nor two, when A's last is; nor none.
abbrev pub p10_exact : Row
p10_exact = same_under 6 p10

abbrev pub p10_one_less : Row
p10_one_less = cut_off 5 p10 counts₁₀

abbrev pub p10_of_first : Row
p10_of_first = cut_off 3 p10 counts₁₀

abbrev pub p10_in_first : Row
p10_in_first = cut_off 2 p10 counts₁₀

abbrev pub p10_none : Row
p10_none = cut_off 0 p10 counts₁₀

-- P4: 15 after one step and a look, which is no step; with no step allowed, a term is due: 18
abbrev pub p4_exact : Row
p4_exact = same_under 1 p4

abbrev pub p4_none : Row
p4_none = cut_off 0 p4 one_kept

-- P11: the first look ends in "does not divide": 15 with no step allowed
abbrev pub p11_none : Row
p11_none = same_under 0 p11

-- 12, 13 and 14 with no step allowed: no division is begun
abbrev pub p2_none : Row
p2_none = same_under 0 p2

abbrev pub p8_none : Row
p8_none = same_under 0 p8

abbrev pub p6_none : Row
p6_none = same_under 0 p6

-- x and x + y by x: one step for A, one for B, and a look. With one step allowed B's first term is due: 18
abbrev pub first_exact : Row
first_exact = same_under 2 divides_first

abbrev pub first_one_less : Row
first_one_less = cut_off 1 divides_first one_kept

-- the two exchanged: one step for A, and a look: 15 under the same ceiling, and after one step, not two, under a higher one
abbrev pub second_exact : Row
second_exact = same_under 1 divides_second

abbrev pub second_none : Row
second_none = cut_off 0 divides_second one_kept

abbrev pub ceiling_rows : List Row
ceiling_rows =
    p10_exact ∷ p10_one_less ∷ p10_of_first ∷ p10_in_first ∷ p10_none ∷ p4_exact ∷ p4_none ∷ p11_none ∷ p2_none ∷ p8_none ∷ p6_none
    ∷ first_exact ∷ first_one_less ∷ second_exact ∷ second_none ∷ []

-- the Cancel key: F over 5 H under six steps, and under five; and N = x, D = x + y under two and under one
abbrev pub key_exact : CancelRow
key_exact = cancels_to (same_under 6 f_over_h.divisor) 5 f_over_h.found f_over_h.numerator f_over_h.denominator

abbrev pub key_one_less : CancelRow
key_one_less = refuses (cut_off 5 f_over_h.divisor counts₁₀) CEILING_REACHED counts₁₀ 5

abbrev pub key_refused : CancelRow
key_refused = refuses first_exact DOES_NOT_DIVIDE one_kept 2

abbrev pub key_refused_one_less : CancelRow
key_refused_one_less = refuses first_one_less CEILING_REACHED one_kept 1

abbrev pub ceiling_cancels : List CancelRow
ceiling_cancels = key_exact ∷ key_one_less ∷ key_refused ∷ key_refused_one_less ∷ []
