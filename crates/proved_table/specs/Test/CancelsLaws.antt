-- A row of the Cancel key that passes its test holds, and so does the candidate's row in it; with an output too short it is refused. It is the only
-- result of its call.
use Rattle.std.specs.Prelude.{◌≡◌, refl, Bool, ℕ, ◌≤◌, eqb, length, get_or}
use Rattle.std.proofs.Math.Path.{sym, subst}
use Rattle.std.proofs.Common.{◌∙◌, ap, inl, inr, arith, take_at, eqb-true}
use Rattle.std.proofs.Math.Bool.{true, false, and-eq-true_iff}
use Rattle.std.proofs.lemmas.Bool.{false≢true, eqb-false}
use mathlib.Core.List.{List, [], ◌∷◌}
use Rattle.algebra.specs.SeriesRing.{S4}
use Rattle.algebra.specs.Monomial.{polynomial}
use Rattle.algebra.specs.Laws.Solver.{◌⊗◌, ◌≗◌, ring3}
use Rattle.field.specs.Prime.{Prime}
use Rattle.field.specs.Fp.{Fp, el}
use Rattle.field.specs.Moduli.{Listed}
use Rattle.field.specs.Modulus.Laws.{listed_unique, listed_prime, listed_below}
use Rattle.field.specs.Modulo.{Modulo}
use Rattle.field.specs.Lent.{written}
use Rattle.field.specs.Numbers.{OUTPUT_SHORT}
use Rattle.field.specs.Refusal.{fault, Passes}
use Rattle.field.specs.Faults.Laws.{after_fault_known, passes_append, refuses_back, not_passes_and_refuses}
use Rattle.poly.specs.Keys.{keys}
use Rattle.poly.specs.Terms.{Polynomial, coefficient_of, terms_of, poly}
use Rattle.poly.specs.Room.{of_rooms, room_lines, work_room, cleared}
use Rattle.poly.specs.List.Right.{lists_are_right}
use Rattle.poly.specs.List.Falling.{falling_right}
use Rattle.divisor.specs.declared.CandidateRecord.{CandidateRecord}
use Rattle.divisor.specs.Candidate.{Call, table, AnswerTo, handed_out, refused_record, Result, Candidate, refused, answered}
use Rattle.divisor.specs.Demands.{LeadsWith, constant}
use Rattle.divisor.specs.Verdict.Output.{answered_output}
use Rattle.cancel.specs.declared.CancelRecord.{CancelRecord}
use Rattle.cancel.specs.CancelCall.{CancelCall, cancel_result, cancel_table, TooShort, Finds, with_both, Times, Cancel, no_divisor}
use Rattle.cancel.specs.CancelCall.{refused as cancel_refused, cancelled}
use Rattle.cancel.specs.Scaling.Laws.{poly_times}
use Rattle.cancel.specs.Cancelling.Determined.{cancel_determined}
use Rattle.proved_table.specs.Row.{Row, call, result, Holds, CancelRow, cancel_call_of, cancel_result_of, Cancels, CancelDetermined, ShortRefused}
use Rattle.proved_table.specs.Test.Computed.{Computed, unanswered, answered as computed_answer, computed}
use Rattle.proved_table.specs.Test.ComputedLaws.{Told}
use Rattle.proved_table.specs.Test.Rows.{listed_and, same_numbers, input_lines, test, right_lists, multiplies}
use Rattle.proved_table.specs.Test.RowsLaws.{record_of, same_is, listed_and_means, rooms_pass, inputs_pass, test_settles, tested, multiplied, lists_pass}
use Rattle.proved_table.specs.Test.Cancels.{cancel_numbers, begins_with_one, product_with, hands_out, cancel_test}

-- the record of a row that passes counts its terms
terms_counted : (r : Row) → test r ≡ true → r.found.terms ≡ length r.terms
terms_counted r h = test_settles r (λ found terms. found.terms ≡ length terms)
    (λ listed. counted (computed r.modulus (listed_prime listed) r.first_list r.second_list r.skeleton r.points r.ceiling)) h
  where
    counted : (x : Computed) → Told (λ found terms. found.terms ≡ length terms) x
    counted unanswered = tt
    counted (computed_answer number counts ts steps) = refl

-- what the candidate answers to a row that passes: the row's record, and the polynomial of the row's terms
row_answered : (r : Row) → test r ≡ true → (listed : Listed r.modulus) (output work : List ℕ) → length r.skeleton ≤ length output
    → work_room ≤ length work → AnswerTo (call r output work) listed r.found (terms_of r.modulus (listed_prime listed) r.terms)
row_answered r h listed output work long room = go _ (tested r h output work long room) refl
  where
    c : Call
    c = call r output work

    pass : Passes (table c)
    pass = passes_append (input_lines r) (of_rooms (length output) (length r.skeleton) (length work)) (inputs_pass r h)
        (rooms_pass (λ l. omega arith) work room)

    go : (q : Result) → Candidate c q → q ≡ result r output work → AnswerTo c listed r.found (terms_of r.modulus (listed_prime listed) r.terms)
    go q (refused f k) e = absurd (not_passes_and_refuses (table c) f pass k)
    go q (answered k l found G x) e =
        let handed : terms_of r.modulus (listed_prime l) r.terms ≡ G =
        ap (terms_of r.modulus (listed_prime l)) (sym (take_at r.terms _ r.found.terms (sym (terms_counted r h))))
        ∙ ap (handed_out c l) (sym e) ∙ answered_output c l found G x in
        subst (λ (l : Listed r.modulus). AnswerTo c l r.found (terms_of r.modulus (listed_prime l) r.terms)) (listed_unique _ l listed)
        (subst (λ (f : CandidateRecord). AnswerTo c l f (terms_of r.modulus (listed_prime l) r.terms)) (ap (λ (q : Result). q.found) e)
        (subst (AnswerTo c l found) (sym handed) x))

leads_with_one : (p : ℕ) (P : Prime p) (ts : List ℕ) → begins_with_one ts ≡ true → LeadsWith (Modulo p P) (el p 1) (terms_of p P ts)
unfolding begins_with_one
leads_with_one p P [] k = false≢true k
leads_with_one p P (t ∷ ts) k = ap (el p) (eqb-true (coefficient_of t) 1 k)

-- a record with other steps
abbrev with_steps : CandidateRecord → ℕ → CandidateRecord
with_steps r steps =
    record { fault = r.fault; degree = r.degree; bad = r.bad; unlucky = r.unlucky; kept = r.kept; terms = r.terms; steps = steps }

-- a record is known by its numbers
record_known : (r q : CancelRecord) → cancel_numbers r ≡ cancel_numbers q → r ≡ q
record_known r q e =
    after_fault_known (λ f l. r ≡ with_both (with_steps (record_of f l) (get_or l 6 0)) (get_or l 4 0) (get_or l 5 0)) r.fault q.fault _ _ e refl

module _ (r : CancelRow) where
  abbrev p : ℕ
  p = r.divisor.modulus

  -- the candidate's record with both counts
  abbrev told : CancelRecord
  told = with_both r.divisor.found (length r.numerator) (length r.denominator)

  module _ (listed : Listed r.divisor.modulus) where
    abbrev P : Prime r.divisor.modulus
    P = listed_prime listed

    abbrev G : Polynomial (Modulo r.divisor.modulus (listed_prime listed))
    G = terms_of p P r.divisor.terms

    abbrev factor : Fp r.divisor.modulus
    factor = el p r.factor

    -- a list that passes the product test is G times the terms times c
    struck_out : (whole terms : List ℕ) → multiplies p P (product_with r whole terms) ≡ true → Times p P G terms factor whole
    struck_out whole terms k =
        let R = S4 (Modulo p P).ring in
        ring3 R (λ g q c. g ⊗ q ⊗ c ≗ g ⊗ c ⊗ q) tt (polynomial (Modulo p P).ring G) (poly p P terms) (constant (Modulo p P) factor)
        ∙ ap (λ (f : R.Car). R.mul f (poly p P terms)) (sym (poly_times p P (listed_below listed) r.factor r.divisor.terms))
        ∙ sym (multiplied p P (product_with r whole terms) k)

    module _ (h : test r.divisor ≡ true) (numerator denominator work : List ℕ) (long : keys ≤ length numerator) (long' : keys ≤ length denominator)
        (room : work_room ≤ length work) where
      abbrev c : CancelCall
      c = cancel_call_of r.divisor numerator denominator work

      fits : ¬ TooShort c
      fits (inl l) = omega arith
      fits (inr l) = omega arith

      pass : Passes (cancel_table c)
      pass = passes_append (input_lines r.divisor) (room_lines (TooShort c) (length work)) (inputs_pass r.divisor h) (rooms_pass fits work room)

      answer : Finds c listed r.divisor.found G
      answer = row_answered r.divisor h listed r.divisor.skeleton work (omega arith) room

      settled : (b : Bool) → eqb r.divisor.found.fault.number 0 ≡ b → hands_out r P b ≡ true
          → Cancel c (cancel_result told (written r.numerator numerator) (written r.denominator denominator) (cleared work))
      unfolding hands_out
      settled true e k =
          let three = (and-eq-true_iff _ (multiplies p P (product_with r r.divisor.second_list r.denominator))).0 k in
          let two = (and-eq-true_iff _ (multiplies p P (product_with r r.divisor.first_list r.numerator))).0 three.0 in
          let one = (and-eq-true_iff (right_lists p r.numerator r.denominator) _).0 two.0 in
          let right = lists_are_right p r.numerator r.denominator (lists_pass p r.numerator r.denominator one.0) in
          cancelled pass listed r.divisor.found G answer (eqb-true _ 0 e) r.numerator r.denominator (record {
            factor = factor;
            numerator = struck_out r.divisor.first_list r.numerator two.1;
            denominator = struck_out r.divisor.second_list r.denominator three.1;
            monic = leads_with_one p P r.denominator one.1;
            numerator_right = falling_right p r.numerator right.first.falls;
            denominator_right = falling_right p r.denominator right.second.falls;
          })
      settled false e k =
          let both = (and-eq-true_iff (same_numbers r.numerator []) _).0 k in
          let ns = sym (same_is r.numerator [] both.0) in
          let ds = sym (same_is r.denominator [] both.1) in
          subst (Cancel c) (λ i. cancel_result (with_both r.divisor.found (length (ns i)) (length (ds i))) (written (ns i) numerator)
          (written (ds i) denominator) (cleared work)) (no_divisor pass listed r.divisor.found G answer (eqb-false _ 0 e))

-- the three tests
passed : (r : CancelRow) → cancel_test r ≡ true
    → (test r.divisor ≡ true) × (same_numbers (cancel_numbers r.found) (cancel_numbers (told r)) ≡ true)
    × (listed_and r.divisor.modulus (λ h. hands_out r (listed_prime h) (eqb r.divisor.found.fault.number 0)) ≡ true)
unfolding cancel_test
passed r h =
    let two = (and-eq-true_iff _ (listed_and r.divisor.modulus _)).0 h in
    let one = (and-eq-true_iff (test r.divisor) _).0 two.0 in
    (one.0, one.1, two.1)

-- the test turned into the contract
pub cancel_tested : (r : CancelRow) → cancel_test r ≡ true → Cancels r
cancel_tested r h numerator denominator work long long' room =
    let t = passed r h in
    let a = listed_and_means r.divisor.modulus _ t.2 in
    subst (λ (found : CancelRecord). Cancel (cancel_call_of r.divisor numerator denominator work)
    (cancel_result found (written r.numerator numerator) (written r.denominator denominator) (cleared work)))
    (sym (record_known _ _ (same_is _ _ t.1))) (settled r a.0 t.0 numerator denominator work long long' room _ refl a.1)

-- of the candidate, to the same inputs
pub divisor_tested : (r : CancelRow) → cancel_test r ≡ true → Holds r.divisor
divisor_tested r h = tested r.divisor (passed r h).0

-- of an output that is too short
pub short_tested : (r : CancelRow) → cancel_test r ≡ true → ShortRefused r
short_tested r h numerator denominator work short q =
    (λ meets. cancel_determined c q _ meets refuses, λ e. subst (Cancel c) (sym e) refuses)
  where
    c : CancelCall
    c = cancel_call_of r.divisor numerator denominator work

    refuses : Cancel c (cancel_result (with_both (refused_record (fault OUTPUT_SHORT 0)) 0 0) numerator denominator work)
    refuses = cancel_refused (fault OUTPUT_SHORT 0) (refuses_back (input_lines r.divisor) (room_lines (TooShort c) (length work)) (fault OUTPUT_SHORT 0)
        (inputs_pass r.divisor (passed r h).0) (inl (0, refl, (short, refl))))

-- a row that holds is the only result of its call
pub cancel_holds_determined : (r : CancelRow) → Cancels r → CancelDetermined r
cancel_holds_determined r h numerator denominator work long long' room q meets =
    cancel_determined (cancel_call_of r.divisor numerator denominator work) q (cancel_result_of r numerator denominator work) meets
    (h numerator denominator work long long' room)
