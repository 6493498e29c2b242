-- A division under way in the work room: what is left of it, from the cell k down, ends as the whole does, and the terms still to be found and the steps
-- taken are those of the whole. It starts, passes cells, takes steps, and ends.
use Rattle.std.specs.Prelude.{◌≡◌, refl, Bool, true, false, List, [], ℕ, zero, suc, ◌+◌, ◌-◌, ◌*◌, ◌%◌, ◌≤◌, ◌<◌, length, get_or, set}
use Rattle.std.proofs.Common.{sym, ◌∙◌, ap, ap₂, subst, arith, length-set, get_or-take}
use Rattle.field.specs.Numbers.{CEILING_REACHED}
use Rattle.poly.specs.Keys.{keys}
use Rattle.poly.specs.Key.Difference.{fits_key}
use Rattle.poly.specs.Division.Dense.{less_length}
use Rattle.poly.specs.TrialDivision.{says, Told, ended, cut_off}
use Rattle.poly.specs.Division.Steps.{division_done, division_passed, division_taken, division_stopped}
use Rattle.poly.specs.Division.Steps.{found_done, found_passed, found_taken, found_stopped, found_few}
use Rattle.poly.specs.Division.WorkRoom.{step_remainder, step_quotient, step_beyond}
use Rattle.poly.specs.Division.Model.{KeysBelow, Setting, less_product, fits, Outcome, divide_from, found_from}
use Rattle.poly.specs.Division.WorkRoomModel.{remainder_cells, quotient_cells, beyond, CanStep, Stepped}

-- what is left to do in a room, from the cell k down: the terms still to be found, and the outcome
abbrev pub left_of : Setting → List ℕ → ℕ → List ℕ × Outcome
left_of d work k = (found_from d k (remainder_cells work), divide_from d k (remainder_cells work) (quotient_cells work))

pub record Going (d : Setting) (before work : List ℕ) (k taken : ℕ) : Type 0 where
  pub cells : k ≤ keys
  pub same_length : length work ≡ length before
  pub rest : beyond work ≡ beyond before
  pub same : (left_of d before keys).1 ≡ (left_of d work k).1
  pub counted : length (left_of d before keys).0 ≡ taken + length (left_of d work k).0

-- what is told, of n steps or of fewer than the ceiling
ended_as : (ceiling steps n : ℕ) {whole b : Bool} → steps ≡ n → whole ≡ b → n ≤ ceiling
    → Told ceiling steps whole (record { number = says b; steps = n })
ended_as ceiling steps n {whole} {b} e w l =
    subst (λ (m : ℕ). Told ceiling m whole (record { number = says b; steps = n })) (sym e)
    (subst (λ (a : Bool). Told ceiling n a (record { number = says b; steps = n })) (sym w) (ended l))

cut_as : (ceiling steps n : ℕ) {whole : Bool} → ceiling < steps → n ≡ ceiling → Told ceiling steps whole (record { number = CEILING_REACHED; steps = n })
cut_as ceiling steps n {whole} l e =
    subst (λ (m : ℕ). Told ceiling steps whole (record { number = CEILING_REACHED; steps = m })) (sym e) (cut_off l)

module _ (d : Setting) where
  -- a cell that is 0 is passed
  pub going_passed : (work : List ℕ) (k : ℕ) → k ≤ keys → ¬ (k ≡ 0) → get_or work (k - 1) 0 ≡ 0 → left_of d work k ≡ left_of d work (k - 1)
  going_passed work k h n z =
      let zero_cell = get_or-take keys work (k - 1) 0 (omega arith) ∙ z in
      ap₂ (λ (qs : List ℕ) (o : Outcome). (qs, o)) (found_passed d _ (omega arith) zero_cell) (division_passed d _ _ (omega arith) zero_cell)

  -- so are n of them from the cell k on
  zeros_passed : (work : List ℕ) (n k : ℕ) → k + n ≤ keys → ((i : ℕ) → k ≤ i → i < keys → get_or work i 0 ≡ 0) → left_of d work (k + n) ≡ left_of d work k
  zeros_passed work zero k h z =
      let e : k + 0 ≡ k = omega arith in
      ap (left_of d work) e
  zeros_passed work (suc n) k h z =
      let e : k + suc n - 1 ≡ k + n = omega arith in
      going_passed work (k + suc n) h (λ q. absurd (omega arith)) (z (k + suc n - 1) (omega arith) (omega arith)) ∙ ap (left_of d work) e
      ∙ zeros_passed work n k (omega arith) z

  pub going_on : {before work : List ℕ} {k j taken : ℕ} → Going d before work k taken → j ≤ k → left_of d work k ≡ left_of d work j
      → Going d before work j taken
  going_on {taken = taken} g h e = record {
    cells = let c = g.cells in omega arith;
    same_length = g.same_length;
    rest = g.rest;
    same = g.same ∙ ap (λ (v : List ℕ × Outcome). v.1) e;
    counted = g.counted ∙ ap (λ (v : List ℕ × Outcome). taken + length v.0) e;
  }

  pub going_start : (work : List ℕ) (top : ℕ) → CanStep d top work → Going d work work top 0
  going_start work top can =
      let w = can.within in
      let e : keys ≡ top + (keys - top) = omega arith in
      going_on (record { cells = omega arith; same_length = refl; rest = refl; same = refl; counted = omega arith }) w
      (ap (left_of d work) e ∙ zeros_passed work (keys - top) top (omega arith) can.above)

  module _ {before work : List ℕ} {k taken : ℕ} (g : Going d before work k taken) where
    -- an end within the ceiling: no term is left to be found
    ends : (ceiling : ℕ) {b : Bool} → taken ≤ ceiling → (left_of d work k).0 ≡ [] → (left_of d work k).1 ≡ record { whole = b; quotient = quotient_cells work }
        → Stepped d ceiling before work (record { number = says b; steps = taken })
    ends ceiling l none o = record {
      told = ended_as ceiling _ taken (let c = g.counted in let z = ap length none in omega arith) (ap (λ (v : Outcome). v.whole) (g.same ∙ o)) l;
      quotient = λ _. sym (ap (λ (v : Outcome). v.quotient) (g.same ∙ o));
      rest = g.rest;
    }

    pub going_done : (ceiling : ℕ) → taken ≤ ceiling → k ≡ 0 → Stepped d ceiling before work (record { number = says true; steps = taken })
    going_done ceiling l e = ends ceiling l (found_done d _ e) (division_done d _ _ e)

    module _ (n : ¬ (k ≡ 0)) (nonzero : ¬ (get_or work (k - 1) 0 ≡ 0)) where
      cell : get_or (remainder_cells work) (k - 1) 0 ≡ get_or work (k - 1) 0
      cell = get_or-take keys work (k - 1) 0 (let c = g.cells in omega arith)

      cell_nonzero : ¬ (get_or (remainder_cells work) (k - 1) 0 ≡ 0)
      cell_nonzero z = nonzero (sym cell ∙ z)

      pub going_stopped : (ceiling : ℕ) → taken ≤ ceiling → fits d (k - 1) ≡ false
          → Stepped d ceiling before work (record { number = says false; steps = taken })
      going_stopped ceiling l f =
          ends ceiling l (found_stopped d _ (omega arith) cell_nonzero f) (division_stopped d _ _ (omega arith) cell_nonzero f)

      -- a further term is due
      module _ (f : fits d (k - 1) ≡ true) where
        due : taken < length (left_of d before keys).0
        due =
            let e : k ≡ suc (k - 1) = omega arith in
            let t = ap length (found_taken d (remainder_cells work) e cell_nonzero f refl) in
            let c = g.counted in
            omega arith

        pub step_fits : taken < keys
        step_fits = let f = found_few d keys (remainder_cells before) in let l = due in omega arith

        -- and the ceiling is reached
        pub going_cut : (ceiling : ℕ) → taken ≡ ceiling → Stepped d ceiling before work (record { number = CEILING_REACHED; steps = taken })
        going_cut ceiling e = record {
          told = cut_as ceiling _ taken (let l = due in omega arith) e;
          quotient = λ l. absurd (let m = due in omega arith);
          rest = g.rest;
        }

      -- a step: the quotient's coefficient q stored, the product taken away
      module _ {top : ℕ} (can : CanStep d top before) (f : fits d (k - 1) ≡ true) where
        abbrev s : ℕ
        s = k - 1 - d.lead

        pub lead_below : d.lead ≤ k - 1
        lead_below = fits_key d.lead d.bound (k - 1) f

        pub product_below : KeysBelow s keys d.terms
        product_below i l = let b = lead_below in let c = g.cells in omega (arith, can.leads i l)

        pub going_taken : (q : ℕ) (after : List ℕ) → q ≡ (get_or work (k - 1) 0 * d.inverse) % d.modulus
            → after ≡ less_product d.modulus s q d.terms (set work (keys + s) q) → Going d before after (k - 1) (taken + 1)
        going_taken q after eq ea =
            let c = g.cells in
            let small : s < keys = omega arith in
            let factor_is = eq ∙ ap (λ (v : ℕ). (v * d.inverse) % d.modulus) (sym cell) in
            let remainder = sym (step_remainder d.modulus s q d.terms work small product_below) ∙ ap remainder_cells (sym ea) in
            record {
              cells = omega arith;
              same_length = ap length ea ∙ less_length d.modulus s q d.terms (set work (keys + s) q) ∙ length-set work (keys + s) q ∙ g.same_length;
              rest = ap beyond ea ∙ step_beyond d.modulus s q d.terms work small product_below ∙ g.rest;
              same =
                  g.same ∙ division_taken d _ _ (omega arith) cell_nonzero f factor_is
                  ∙ ap₂ (λ (l c : List ℕ). divide_from d (k - 1) l c) remainder
                  (sym (step_quotient d.modulus s q d.terms work small product_below) ∙ ap quotient_cells (sym ea));
              counted =
                  let e : k ≡ suc (k - 1) = omega arith in
                  let t = ap length (found_taken d (remainder_cells work) e cell_nonzero f factor_is) in
                  let r = ap (λ (l : List ℕ). length (found_from d (k - 1) l)) remainder in
                  let n = g.counted in
                  omega arith;
            }
