-- What the quotient service answers to inputs that pass, from what the division, the gathering and the clearing say.
use Rattle.std.specs.Prelude.{◌≡◌, Bool, List, ℕ, ◌≤◌, length}
use Rattle.std.proofs.Common.{sym, ◌∙◌, ap, ap₂, true≢false, arith}
use Rattle.field.specs.Modulus.Laws.{listed_prime}
use Rattle.field.specs.Numbers.{DOES_NOT_DIVIDE}
use Rattle.field.specs.Refusal.{fault, Passes}
use Rattle.poly.specs.Keys.{keys}
use Rattle.poly.specs.Terms.{terms_of}
use Rattle.field.specs.Lent.{written}
use Rattle.poly.specs.Room.{work_room, zeroed, cleared}
use Rattle.poly.specs.QuotientCall.{QuotientCall, quotient_table, quotient_result, refused_quotient, found_quotient, Quotient, no_quotient, quotient}
use Rattle.poly.specs.TrialDivision.{Trial}
use Rattle.poly.specs.TrialDivision.{CanDivide, says}
use Rattle.poly.specs.Rooms.Laws.{zeroed_at}
use Rattle.poly.specs.Division.WorkRoom.{quotient_empty}
use Rattle.poly.specs.Division.Ends.{Empty, dividing, found_terms_few}
use Rattle.poly.specs.Division.Begins.{cleared_begins, cleared_room, begun_empty, cleared_division}
use Rattle.poly.specs.Division.Trial.{rule_says, says_yes, says_no, told_ended}
use Rattle.poly.specs.Quotient.Found.{gathered_found, quotient_found}
use Rattle.poly.specs.Quotient.Laws.{passed_lists}
use Rattle.poly.specs.Division.SpreadModel.{gathered}
use Rattle.poly.specs.Division.Model.{divided, found}
use Rattle.poly.specs.Division.WorkRoomModel.{remainder_cells, quotient_cells, CanBegin, Divided, Gathered}

module _ (c : QuotientCall) (h : Passes (quotient_table c)) where
  abbrev p : ℕ
  p = c.modulus

  abbrev f : List ℕ
  f = c.first_list

  abbrev g : List ℕ
  g = c.second_list

  can : CanDivide c.modulus c.first_list c.second_list c.work
  can = passed_lists c h

  pub exact_begins : CanBegin c.modulus c.first_list c.second_list (zeroed work_room c.work)
  exact_begins = cleared_begins p f g c.work can work_room (omega arith) (omega arith)

  module _ (begun after end : List ℕ) (r : Trial) (clears : begun ≡ zeroed work_room c.work)
      (ran : Divided c.modulus c.first_list c.second_list keys begun after r) (again : end ≡ zeroed work_room after) where
    room : end ≡ cleared c.work
    room = cleared_room p f g c.work can work_room (omega arith) (omega arith) begun after keys r clears ran end again

    -- one division takes no more steps than there are keys
    abbrev whole : Bool
    whole = (divided c.modulus c.first_list c.second_list (remainder_cells begun) (quotient_cells begun)).whole

    few : length (found c.modulus c.first_list c.second_list (remainder_cells begun)) ≤ keys
    few = found_terms_few p f g (remainder_cells begun)

    number_is : r.number ≡ says whole
    number_is = ap (λ (t : Trial). t.number) (told_ended keys _ whole r ran.told few)

    -- no quotient: nothing is written
    pub exact_none : ¬ (r.number ≡ 0) → Quotient c (quotient_result (refused_quotient (fault DOES_NOT_DIVIDE 0)) c.output end)
    exact_none n =
        rw room
        (no_quotient h can.is_listed
        (λ d.
        true≢false
        (sym
        ((rule_says (listed_prime can.is_listed) f g (terms_of p (listed_prime can.is_listed) (found p f g (remainder_cells begun))) whole
        (cleared_division p f g c.work can work_room (omega arith) (omega arith) begun after keys r clears ran (listed_prime can.is_listed))
        ).1 d) ∙ says_no whole (λ z. n (number_is ∙ z)))))

    begun_remainder : Empty (remainder_cells begun)
    begun_remainder = begun_empty p f g c.work can work_room (omega arith) (omega arith) begun after keys r clears ran

    begun_quotient : Empty (quotient_cells begun)
    begun_quotient = rw clears (quotient_empty (zeroed work_room c.work) exact_begins.lists.room (zeroed_at work_room c.work))

    abbrev terms : List ℕ
    terms = found c.modulus c.first_list c.second_list (remainder_cells begun)

    -- what was gathered are the terms that the division found
    gathered_terms : length (quotient_cells after) ≡ keys → gathered (length (quotient_cells after)) (quotient_cells after) ≡ terms
    gathered_terms e =
        ap₂ gathered e (ran.quotient few)
        ∙ gathered_found p (listed_prime can.is_listed) f g (dividing can) (remainder_cells begun) (quotient_cells begun) begun_remainder begun_quotient

    -- the quotient, written first in the output
    pub exact_found : r.number ≡ 0 → length (quotient_cells after) ≡ keys → (out : List ℕ) (n : ℕ) → Gathered (quotient_cells after) c.output out n
        → Quotient c (quotient_result (found_quotient n) out end)
    exact_found z long out n gathers =
        let same = gathered_terms long in
        rw (gathers.count ∙ ap length same, gathers.output ∙ ap (λ (qs : List ℕ). written qs c.output) same, room)
        (quotient h can.is_listed terms
        (quotient_found p (listed_prime can.is_listed) f g (dividing can) (remainder_cells begun) (quotient_cells begun) begun_remainder begun_quotient
        (says_yes whole (sym number_is ∙ z))))
