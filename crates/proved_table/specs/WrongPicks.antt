-- The wrong results of the picker, each with the lists that tell it from the right one.
use Rattle.std.specs.Prelude.{List, [], ◌∷◌, ◌++◌}
use Rattle.proved_table.specs.Row.{PickRow}
use Rattle.proved_table.specs.Table.{term_xy, E, K, A₂, B₂}
use Rattle.proved_table.specs.MoreRows.{pick_row, leading_E, leading_A₂, rising}

-- Wrong terms.

-- the second list's where both have as many terms: (y + 2) x³
abbrev pub second_on_a_tie : PickRow
second_on_a_tie = pick_row E K 2 (term_xy 1 3 1 ∷ term_xy 2 3 0 ∷ [])

-- the longer one
abbrev pub longer_of_first : PickRow
longer_of_first = pick_row E A₂ 1 leading_E

abbrev pub longer_of_second : PickRow
longer_of_second = pick_row A₂ E 2 leading_E

-- as many terms, of the other list
abbrev pub as_many_of_the_other : PickRow
as_many_of_the_other = pick_row E A₂ 1 (term_xy 1 3 1 ∷ [])

-- the whole list that has the shorter leading part
abbrev pub whole_shorter_list : PickRow
whole_shorter_list = pick_row E A₂ 2 A₂

-- only the first term of the leading part
abbrev pub first_term_alone : PickRow
first_term_alone = pick_row E K 1 (term_xy 1 3 1 ∷ [])

-- the second list is refused, and handed back; or its first term
abbrev pub refused_second : PickRow
refused_second = pick_row A₂ rising 2 rising

abbrev pub term_of_refused_second : PickRow
term_of_refused_second = pick_row A₂ rising 2 (term_xy 1 0 0 ∷ [])

-- the second list is refused, and the first list's part comes back all the same
abbrev pub first_in_spite_of_second : PickRow
first_in_spite_of_second = pick_row A₂ rising 1 leading_A₂

-- the other way round
abbrev pub second_in_spite_of_first : PickRow
second_in_spite_of_first = pick_row rising A₂ 2 leading_A₂

-- both lists are right, and nothing comes back
abbrev pub nothing_picked : PickRow
nothing_picked = pick_row E A₂ 1 []

abbrev pub wrong_picks : List PickRow
wrong_picks =
    second_on_a_tie ∷ longer_of_first ∷ longer_of_second ∷ as_many_of_the_other ∷ whole_shorter_list ∷ first_term_alone ∷ refused_second
    ∷ term_of_refused_second ∷ first_in_spite_of_second ∷ second_in_spite_of_first ∷ nothing_picked ∷ []

-- The right terms, of the other list.

-- the second list's where both parts have the same terms
abbrev pub second_of_the_same : PickRow
second_of_the_same = pick_row A₂ B₂ 2 leading_A₂

-- the empty head of the second list on refusal
abbrev pub empty_of_the_second : PickRow
empty_of_the_second = pick_row A₂ rising 2 []

-- the second list's terms, where the first list begins
abbrev pub terms_of_second_in_first : PickRow
terms_of_second_in_first = pick_row E A₂ 1 leading_A₂

abbrev pub wrong_places : List PickRow
wrong_places = second_of_the_same ∷ empty_of_the_second ∷ terms_of_second_in_first ∷ []

-- All of them have another list or another number of terms than the right part.
abbrev pub wrong_heads : List PickRow
wrong_heads = wrong_picks ++ wrong_places
