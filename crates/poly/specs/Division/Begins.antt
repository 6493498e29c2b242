-- A division begins with the dividend spread over the remainder's cells, and ends with the answer of the rule; the room is cleared around it.
use Rattle.std.specs.Prelude.{◌≡◌, refl, true, false, List, ℕ, ◌+◌, ◌-◌, ◌≤◌, ◌<◌, length, get_or, take, drop}
use Rattle.std.proofs.Common.{sym, ◌∙◌, ap, ap₂, subst, true≢false, arith, rules}
use Rattle.algebra.specs.Division.{Division}
use Rattle.field.specs.Prime.{Prime}
use Rattle.field.specs.Fp.{el, inv}
use Rattle.field.specs.Modulus.Laws.{listed_prime, listed_positive}
use Rattle.field.specs.Modulo.{Modulo}
use Rattle.field.specs.Numbers.{DOES_NOT_DIVIDE}
use Rattle.field.specs.Elements.Link.{inverse_val}
use Rattle.field.specs.Contract.{Invertible, Inverse}
use Rattle.field.specs.declared.elements.Element.{Element}
use Rattle.poly.specs.Keys.{keys}
use Rattle.poly.specs.Terms.{key_of, coefficient_of, terms_of, poly}
use Rattle.poly.specs.Room.{work_room, zeroed, cleared}
use Rattle.poly.specs.TrialDivision.{Trial}
use Rattle.poly.specs.TrialDivision.{CanDivide, Told, ended, TrialDivision}
use Rattle.poly.specs.List.Falling.{falling_coefficient, falling_keys, falling_first, falling_positive}
use Rattle.poly.specs.Rooms.Laws.{zeroed_length, zeroed_at, zeroed_beyond, zeroed_same}
use Rattle.poly.specs.Division.Spread.{spread_length, spread_above}
use Rattle.poly.specs.Division.WorkRoom.{take_spread, drop_spread, same_beyond, remainder_empty}
use Rattle.poly.specs.Division.Steps.{by_lists}
use Rattle.poly.specs.Division.Ends.{Empty, dividing, divided_division}
use Rattle.poly.specs.Division.SpreadModel.{spread}
use Rattle.poly.specs.Division.Model.{most_key, at_most, Setting, Outcome, divide_from, found_from, setting, divided, found}
use Rattle.poly.specs.Division.WorkRoomModel.{remainder_cells, quotient_cells, beyond, CanStep, Ran, Stepped, CanBegin, Divided}

-- a run of a division by other names
ran_as : {ceiling : ℕ} {qs rs : List ℕ} {o u : Outcome} {before start after : List ℕ} {r : Trial} → Ran ceiling qs o before after r
    → qs ≡ rs → o ≡ u → beyond before ≡ beyond start → Ran ceiling rs u start after r
ran_as {ceiling} {qs} {rs} {o} {u} {r = r} s q e b = record {
  told = subst (λ (l : List ℕ). Told ceiling (length l) u.whole r) q (subst (λ (v : Outcome). Told ceiling (length qs) v.whole r) e s.told);
  quotient = λ l. s.quotient (subst (λ (m : List ℕ). length m ≤ ceiling) (sym q) l) ∙ ap (λ (v : Outcome). v.quotient) e;
  rest = s.rest ∙ b;
}

module _ (p : ℕ) (f g work : List ℕ) (can : CanDivide p f g work) where
  -- some greatest exponent of the divisor is above the dividend's
  pub begun_wide : at_most (most_key g) (most_key f) ≡ false → (ceiling : ℕ)
      → Divided p f g ceiling work work (record { number = DOES_NOT_DIVIDE; steps = 0 })
  begun_wide e ceiling =
      by_lists p f g (remainder_cells work) (quotient_cells work)
      (λ qs o. Ran ceiling qs o work work (record { number = DOES_NOT_DIVIDE; steps = 0 }))
      (λ _. record { told = ended (omega arith); quotient = λ _. refl; rest = refl }) (λ n. absurd (true≢false (sym n ∙ e)))

  -- the divisor's leading coefficient has an inverse
  module _ (a : Element) (em : a.modulus ≡ p) (ev : a.value ≡ coefficient_of (get_or g 0 0)) where
    pub lead_invertible : Invertible a
    lead_invertible =
        let small = falling_coefficient p keys g can.divisor_falls 0 can.some_divisor in
        let positive = falling_positive p keys g can.divisor_falls 0 can.some_divisor in
        record { is_listed = rw em can.is_listed; below = omega arith; nonzero = omega arith }

    pub lead_inverse_is : (r : Element) → Inverse a r → r.value ≡ (inv (el p (coefficient_of (get_or g 0 0)))).val
    lead_inverse_is r i =
        inverse_val a r (rw em (listed_prime can.is_listed)) i ∙ ap₂ (λ (m v : ℕ). (inv (el m v)).val) em ev

  -- the steps after the dividend is spread
  module _ (d : Setting) (is : d ≡ setting p f g) (begun : List ℕ) (spreads : begun ≡ spread f work) where
    pub begun_can_step : ((i : ℕ) → i < keys → get_or work i 0 ≡ 0) → (top : ℕ) → top ≡ key_of (get_or f 0 0) + 1 → CanStep d top begun
    begun_can_step empty top et =
        rw (is, spreads)
        (record {
          positive = listed_positive can.is_listed;
          room = let e = spread_length f work in let r = can.room in omega arith;
          within = omega (arith, falling_keys p keys f can.dividend_falls 0 can.some_dividend);
          above = λ i h l. spread_above f work i (λ j b. omega (arith, falling_first p keys f can.dividend_falls j b)) ∙ empty i l;
          leads = falling_first p keys g can.divisor_falls;
        })

    pub begun_ends : at_most (most_key g) (most_key f) ≡ true → (ceiling : ℕ) (after : List ℕ) (r : Trial) → Stepped d ceiling begun after r
        → Divided p f g ceiling work after r
    begun_ends e ceiling after r s =
        let b = falling_keys p keys f can.dividend_falls in
        let remainder = take_spread keys f work b in
        let quotient = ap (take keys) (drop_spread keys f work b) in
        by_lists p f g (remainder_cells work) (quotient_cells work) (λ qs o. Ran ceiling qs o work after r) (λ n. absurd (true≢false (sym e ∙ n)))
        (λ _. ran_as s
        (ap₂ (λ (x : Setting) (l : List ℕ). found_from x keys (remainder_cells l)) is spreads ∙ ap (found_from (setting p f g) keys) remainder)
        (ap₂ (λ (x : Setting) (l : List ℕ). divide_from x keys (remainder_cells l) (quotient_cells l)) is spreads
        ∙ ap₂ (divide_from (setting p f g) keys) remainder quotient)
        (ap beyond spreads ∙ same_beyond (spread f work) work (drop_spread keys f work b)))

  -- cleared, divided, and cleared again
  module _ (n : ℕ) (some : keys ≤ n) (most : n ≤ work_room) where
    pub cleared_begins : CanBegin p f g (zeroed n work)
    cleared_begins =
        let r = can.room in
        let e = zeroed_length n work (omega arith) in
        record { lists = search rules; empty = λ i h. zeroed_at n work i (omega arith) }

    -- the room around it: as it was beyond, and cleared again
    module _ (begun after : List ℕ) (ceiling : ℕ) (r : Trial) (clears : begun ≡ zeroed n work) (ran : Divided p f g ceiling begun after r) where
      pub cleared_room : (end : List ℕ) → end ≡ zeroed work_room after → end ≡ cleared work
      cleared_room end e =
          let m : n + (work_room - n) ≡ work_room = omega arith in
          e
          ∙ zeroed_same work_room after work
          (ran.rest ∙ ap beyond clears ∙ ap (λ (j : ℕ). drop j (zeroed n work)) (sym m) ∙ zeroed_beyond n (work_room - n) work
          ∙ ap (λ (j : ℕ). drop j work) m)

      pub begun_empty : Empty (remainder_cells begun)
      begun_empty = rw clears (remainder_empty (zeroed n work) cleared_begins.lists.room cleared_begins.empty)

      -- the answer and the terms are those of the rule
      pub cleared_division : (P : Prime p)
          → Division (Modulo p P).ring (poly p P f) (poly p P g) (terms_of p P (found p f g (remainder_cells begun)))
          (divided p f g (remainder_cells begun) (quotient_cells begun)).whole
      cleared_division P = divided_division p P f g (dividing can) (remainder_cells begun) (quotient_cells begun) begun_empty

      pub cleared_trial : {end : List ℕ} → end ≡ zeroed work_room after → TrialDivision p f g ceiling work end r
      cleared_trial e = record {
        quotient = found p f g (remainder_cells begun);
        whole = (divided p f g (remainder_cells begun) (quotient_cells begun)).whole;
        division = cleared_division;
        told = ran.told;
        room = cleared_room _ e;
      }
