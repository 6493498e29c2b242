-- The part that is computed is the shorter leading part, and no other is: a row that passes its test holds, and a wrong one is refuted.
use Rattle.std.specs.Prelude.{◌≡◌, refl, Bool, true, false, not, List, [], ◌∷◌, ℕ, zero, suc, ◌+◌, ◌≤◌, eqb, ltb, length, get_or, take, drop}
use Rattle.std.proofs.Common.{sym, ◌∙◌, ap, subst, arith, add-one, eqb-true, ltb-true, ltb-false}
use Rattle.std.proofs.lemmas.Bool.{false≢true, eqb-false}
use Rattle.std.specs.Borrow.{Bor}
use Rattle.field.specs.Refusal.{Tested}
use Rattle.field.specs.declared.faults.Fault.{Fault}
use Rattle.field.specs.Faults.Laws.{tested_passes, tested_refuses}
use Rattle.field.specs.Faults.Decision.{decided, decided_tested}
use Rattle.poly.specs.ShorterPart.{Head}
use Rattle.poly.specs.LeadingPart.{x_of}
use Rattle.poly.specs.ShorterPart.{of_two_lists, Shorter, refused, of_first, of_second, picked, ShorterPart, part_of_first, part_of_second}
use Rattle.poly.specs.Search.{Searched}
use Rattle.poly.specs.List.Model.{Lower}
use Rattle.poly.specs.List.Searching.{Searching}
use Rattle.poly.specs.List.Search.{search_begins, search_goes_on, search_stops, search_ends}
use Rattle.poly.specs.List.Shorter.{shorter_of_first, shorter_of_second, picked_of_first, picked_of_second, shorter_determined, shorter_head_determined}
use Rattle.proved_table.specs.Row.{PickRow, place_of, Sliced, Picks}
use Rattle.proved_table.specs.MoreRows.{pick_row}
use Rattle.proved_table.specs.Wrong.{PickRefuted, PlaceRefuted, HeadRefuted}
use Rattle.proved_table.specs.Test.Decisions.{two_lists_checks}
use Rattle.proved_table.specs.Test.RowsLaws.{same_is}
use Rattle.proved_table.specs.Test.WrongLaws.{clash_differ}
use Rattle.proved_table.specs.Test.Picks.{lower_from, by_lengths, right_pick, right, pick_test, wrong_pick_test, wrong_place_test, wrong_head_test}

lower_searched : (ts : List ℕ) (left i : ℕ) → left + i ≡ length ts → Searching (Lower ts) (length ts) i
    → Searched (Lower ts) (length ts) (lower_from ts left i)
unfolding lower_from
lower_searched ts zero i e s = search_ends s (omega arith)
lower_searched ts (suc left) i e s =
    go (ltb (x_of (get_or ts i 0)) (x_of (get_or ts 0 0))) refl (λ h. lower_searched ts left (suc i) (omega arith) h)
  where
    go : (b : Bool) → ltb (x_of (get_or ts i 0)) (x_of (get_or ts 0 0)) ≡ b
        → (Searching (Lower ts) (length ts) (suc i) → Searched (Lower ts) (length ts) (lower_from ts left (suc i)))
        → Searched (Lower ts) (length ts) (elim b as (λ _. ℕ) [ true ↦ i | false ↦ lower_from ts left (suc i) ])
    go true l again = search_stops s (ltb-true _ _ l)
    go false l again =
        let k : x_of (get_or ts 0 0) ≤ x_of (get_or ts i 0) = ltb-false _ _ l in
        again (subst (Searching (Lower ts) (length ts)) (add-one i) (search_goes_on s (omega arith) (λ lower. omega arith)))

by_lengths_meets : (A B : List ℕ) (f : Fault) → Tested (of_two_lists A B) f → (n m : ℕ) → Searched (Lower A) (length A) n
    → Searched (Lower B) (length B) m → Shorter A B (by_lengths A B f.number n m).list (by_lengths A B f.number n m).terms
unfolding by_lengths
by_lengths_meets A B f t n m s u = go (eqb f.number 0) refl (ltb m n) refl
  where
    go : (b : Bool) → eqb f.number 0 ≡ b → (c : Bool) → ltb m n ≡ c → let r = elim b as (λ _. PickRow) [
      | true ↦ elim c as (λ _. PickRow) [ true ↦ pick_row A B 2 (take m B) | false ↦ pick_row A B 1 (take n A) ]
      | false ↦ pick_row A B 1 []
    ] in Shorter A B r.list r.terms
    go true z true l =
        (picked_of_second (shorter_of_second A B (tested_passes (of_two_lists A B) tt f t (eqb-true f.number 0 z)).0 n m s u (ltb-true m n l)) refl).1
    go true z false l =
        (picked_of_first (shorter_of_first A B (tested_passes (of_two_lists A B) tt f t (eqb-true f.number 0 z)).0 n m s u (ltb-false m n l)) (λ e. omega arith)).1
    go false z c l = refused f (tested_refuses (of_two_lists A B) f t (eqb-false f.number 0 z))

pub right_pick_meets : (A B : List ℕ) → Shorter A B (right_pick A B).list (right_pick A B).terms
unfolding right_pick
right_pick_meets A B =
    by_lengths_meets A B (decided (of_two_lists A B) (two_lists_checks A B)) (decided_tested (of_two_lists A B) (two_lists_checks A B)) _ _
    (lower_searched A (length A) 0 (omega arith) search_begins) (lower_searched B (length B) 0 (omega arith) search_begins)

-- terms of a list, said of slices
sliced_part : {A B head : List ℕ} {i : ℕ} → Shorter A B i head → (first second part : Bor (List ℕ)) → Shorter first.now second.now i part.now
    → part.ref_ptr ≡ place_of i first second → ShorterPart first second part
sliced_part (refused f h) first second part s e = part_of_first s e
sliced_part (of_first u w h p q l) first second part s e = part_of_first s e
sliced_part (of_second u w h p q l) first second part s e = part_of_second s e

shorter_picks : (r : PickRow) → Shorter r.first_list r.second_list r.list r.terms → Picks r
shorter_picks r s first second part c = sliced_part s first second part (rw (c.first_now, c.second_now, c.part_now) s) c.part_place

pub pick_tested : (r : PickRow) → pick_test r ≡ true → Picks r
unfolding pick_test
pick_tested r h =
    let e = same_is (r.list ∷ r.terms) ((right r).list ∷ (right r).terms) h in
    shorter_picks r (subst (λ (l : List ℕ). Shorter r.first_list r.second_list (get_or l 0 0) (drop 1 l)) (sym e)
    (right_pick_meets r.first_list r.second_list))

-- what meets the contract has the right terms, and begins where the right list does
module _ (w : PickRow) (first second part : Bor (List ℕ)) (c : Sliced w first second part) (meets : ShorterPart first second part) where
  settled : (part.ref_ptr ≡ place_of (right w).list first second) × (part.now ≡ (right w).terms)
  settled =
      let row = pick_row w.first_list w.second_list (right w).list (right w).terms in
      let slice : Bor (List ℕ) = record { ref_ptr = place_of (right w).list first second; now = (right w).terms } in
      shorter_determined meets (shorter_picks row (right_pick_meets w.first_list w.second_list) first second slice
      (record { first_now = c.first_now; second_now = c.second_now; part_now = refl; part_place = refl }))

  same_terms : w.terms ≡ (right w).terms
  same_terms = sym c.part_now ∙ settled.1

  same_place : place_of w.list first second ≡ place_of (right w).list first second
  same_place = sym c.part_place ∙ settled.0

pub pick_refuted : (w : PickRow) → wrong_pick_test w ≡ true → PickRefuted w
unfolding wrong_pick_test
pick_refuted w h first second part c meets =
    clash_differ (length w.terms ∷ w.terms) _ h (ap (λ (l : List ℕ). length l ∷ l) (same_terms w first second part c meets))

pub place_refuted : (w : PickRow) → wrong_place_test w ≡ true → PlaceRefuted w
unfolding wrong_place_test
place_refuted w h first second part apart c meets = go (eqb w.list 2) (eqb (right w).list 2) h (same_place w first second part c meets)
  where
    go : (a b : Bool) → elim a as (λ _. Bool) [ true ↦ not b | false ↦ b ] ≡ true
        → ◌≡◌ {A = ℕ × ℕ} (elim a [ true ↦ second.ref_ptr | false ↦ first.ref_ptr ]) (elim b [ true ↦ second.ref_ptr | false ↦ first.ref_ptr ]) → ⊥
    go true true h e = false≢true h
    go true false h e = apart (sym e)
    go false true h e = apart e
    go false false h e = false≢true h

pub head_refuted : (w : PickRow) → wrong_head_test w ≡ true → HeadRefuted w
unfolding wrong_head_test
head_refuted w h meets =
    clash_differ (w.list ∷ length w.terms ∷ []) _ h
    (ap (λ (r : Head). r.list ∷ r.terms ∷ [])
    (shorter_head_determined meets (picked (right w).list (right w).terms (right_pick_meets w.first_list w.second_list))))
