-- The right part of two lists, computed: their lines are decided, then the leading parts are compared. The test of a row, which is that part; and of
-- wrong ones, which have other terms or are of the other list.
use Rattle.std.specs.Prelude.{Bool, true, false, not, List, [], ◌∷◌, ℕ, zero, suc, eqb, ltb, length, get_or, take}
use Rattle.field.specs.Faults.Decision.{decided}
use Rattle.poly.specs.LeadingPart.{x_of}
use Rattle.poly.specs.ShorterPart.{of_two_lists}
use Rattle.proved_table.specs.Row.{PickRow}
use Rattle.proved_table.specs.MoreRows.{pick_row}
use Rattle.proved_table.specs.Test.Decisions.{two_lists_checks}
use Rattle.proved_table.specs.Test.Rows.{same_numbers}
use Rattle.proved_table.specs.Test.Wrong.{clash}

-- the first place from i on with a lower power of x than the first term's, or the length
unfoldable pub lower_from : (ts : List ℕ) (left i : ℕ) → ℕ
lower_from ts zero i = i
lower_from ts (suc left) i = elim (ltb (x_of (get_or ts i 0)) (x_of (get_or ts 0 0))) [ true ↦ i | false ↦ lower_from ts left (suc i) ]

-- by the fault's number and the lengths of the leading parts
unfoldable pub by_lengths : (A B : List ℕ) (number n m : ℕ) → PickRow
by_lengths A B number n m = elim (eqb number 0) [
  | true ↦ elim (ltb m n) [ true ↦ pick_row A B 2 (take m B) | false ↦ pick_row A B 1 (take n A) ]
  | false ↦ pick_row A B 1 []
]

unfoldable pub right_pick : List ℕ → List ℕ → PickRow
right_pick A B =
    by_lengths A B (decided (of_two_lists A B) (two_lists_checks A B)).number (lower_from A (length A) 0) (lower_from B (length B) 0)

module _ (r : PickRow) where
  abbrev pub right : PickRow
  right = right_pick r.first_list r.second_list

  unfoldable pub pick_test : Bool
  pick_test = same_numbers (r.list ∷ r.terms) (right.list ∷ right.terms)

  unfoldable pub wrong_pick_test : Bool
  wrong_pick_test = clash (length r.terms ∷ r.terms) (length right.terms ∷ right.terms)

  unfoldable pub wrong_place_test : Bool
  wrong_place_test = elim (eqb r.list 2) [ true ↦ not (eqb right.list 2) | false ↦ eqb right.list 2 ]

  unfoldable pub wrong_head_test : Bool
  wrong_head_test = clash (r.list ∷ length r.terms ∷ []) (right.list ∷ length right.terms ∷ [])
