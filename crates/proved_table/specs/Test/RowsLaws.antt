-- A row that passes the test holds, and so do an image and a product; and each of a list does. A row that holds is the only result of its call.
use Rattle.std.specs.Prelude.{◌≡◌, refl, Bool, true, ℕ, ◌≤◌, eqb, get_or, drop}
use Rattle.std.proofs.Math.Path.{sym}
use Rattle.std.proofs.Common.{ap₂, arith, eqb-true}
use Rattle.std.proofs.Math.Bool.{false, false≢true, and-eq-true_iff}
use mathlib.Core.List.{List, [], ◌∷◌}
use Rattle.std.proofs.Math.ListN.{length}
use Rattle.field.specs.Prime.{Prime}
use Rattle.field.specs.Moduli.{Listed}
use Rattle.field.specs.Modulus.Laws.{every, listed_prime, listed_decided}
use Rattle.field.specs.Modulo.{Modulo}
use Rattle.field.specs.Numbers.{DOES_NOT_DIVIDE}
use Rattle.field.specs.Refusal.{fault, none, Passes}
use Rattle.field.specs.Faults.Laws.{after_fault_known, placed_never, passes_append, tested_passes}
use Rattle.field.specs.declared.faults.Fault.{Fault}
use Rattle.field.specs.Faults.Decision.{decided_tested, decided_passes}
use Rattle.poly.specs.ImageCall.{ImageRecord}
use Rattle.poly.specs.QuotientCall.{QuotientRecord}
use Rattle.poly.specs.Keys.{keys}
use Rattle.poly.specs.Terms.{Polynomial, terms_of, poly}
use Rattle.poly.specs.Lists.{of_lists}
use Rattle.poly.specs.QuotientCall.{QuotientCall, quotient_table, quotient_result, Quotient, no_quotient, quotient}
use Rattle.poly.specs.ImageCall.{image_table}
use Rattle.field.specs.Lent.{written}
use Rattle.poly.specs.Room.{room_lines, of_rooms, work_room, cleared}
use Rattle.poly.specs.Image.Model.{image_of}
use Rattle.poly.specs.Image.Call.{image_fine, image_answered, model_answers}
use Rattle.poly.specs.Division.Trial.{rule_says}
use Rattle.poly.specs.List.Right.{lists_are_right}
use Rattle.poly.specs.List.Falling.{falling_right}
use Rattle.divisor.specs.declared.CandidateRecord.{CandidateRecord}
use Rattle.divisor.specs.Rule.{report}
use Rattle.divisor.specs.Candidate.{candidate_result, Candidate}
use Rattle.divisor.specs.Answer.CandidateDetermined.{candidate_determined}
use Rattle.proved_table.specs.Row.{Row, call, result, Holds, Determined, QuotientRow, quotient_call_of, quotient_result_of, QuotientHolds}
use Rattle.proved_table.specs.Row.{ImageRow, Shows, Product, Multiplies, Each}
use Rattle.proved_table.specs.Test.TermDivision.{Outcome, ended, open_still}
use Rattle.proved_table.specs.Test.TermDivisionLaws.{Means, nothing_left_means}
use Rattle.proved_table.specs.Test.Decisions.{list_checks, image_checks}
use Rattle.proved_table.specs.Test.Computed.{Computed, unanswered, answered, computed}
use Rattle.proved_table.specs.Test.ComputedLaws.{Told, divided_by_means, computed_sound}
use Rattle.proved_table.specs.Test.Rows.{listed_and, same_numbers, numbers, agrees, input_lines, input_checks, passes, answers, test}
use Rattle.proved_table.specs.Test.Rows.{right_lists, quotient_numbers, product_of, quotient_agrees, quotient_test}
use Rattle.proved_table.specs.Test.Rows.{image_numbers, image_passes, image_agrees, image_test, multiplies}

pub same_is : (ms ns : List ℕ) → same_numbers ms ns ≡ true → ms ≡ ns
unfolding same_numbers
same_is [] [] h = refl
same_is [] (n ∷ ns) h = absurd (false≢true h)
same_is (m ∷ ms) [] h = absurd (false≢true h)
same_is (m ∷ ms) (n ∷ ns) h =
    let both = (and-eq-true_iff (eqb m n) (same_numbers ms ns)).0 h in
    ap₂ ◌∷◌ (eqb-true m n both.0) (same_is ms ns both.1)

-- the record of a fault and the numbers behind it
abbrev pub record_of : Fault → List ℕ → CandidateRecord
record_of f l =
    record { fault = f; degree = get_or l 0 0; bad = get_or l 1 0; unlucky = get_or l 2 0; kept = get_or l 3 0; terms = get_or l 4 0; steps = get_or l 5 0 }

-- a record and terms are known by their numbers
numbers_settle : (X : CandidateRecord → List ℕ → Type 0) (r q : CandidateRecord) (terms ts : List ℕ) → numbers r terms ≡ numbers q ts → X r terms → X q ts
numbers_settle X r q terms ts e x = after_fault_known (λ f l. X (record_of f l) (drop 6 l)) r.fault q.fault _ _ e x

-- of a listed modulus the test was passed
pub listed_and_means : (p : ℕ) (f : Listed p → Bool) → listed_and p f ≡ true → (h : Listed p) × (f h ≡ true)
unfolding listed_and
listed_and_means p f h = go (listed_decided p) h
  where
    go : (d : Dec (Listed p)) → elim d as (λ _. Bool) [ yes h ↦ f h | no n ↦ false ] ≡ true → (h : Listed p) × (f h ≡ true)
    go (yes listed) h = (listed, h)
    go (no n) h = absurd (false≢true h)

pub rooms_pass : {Short : Type 0} → ¬ Short → (work : List ℕ) → work_room ≤ length work → Passes (room_lines Short (length work))
rooms_pass fits work room = (placed_never fits, (placed_never (λ l. omega arith), tt))

-- no line of the inputs applies to a row that passes
pub inputs_pass : (r : Row) → test r ≡ true → Passes (input_lines r)
unfolding test passes
inputs_pass r h = decided_passes (input_lines r) tt (input_checks r) (eqb-true _ 0 ((and-eq-true_iff (passes r) _).0 h).0)

-- what is so of the computed answer is so of a row that passes
pub test_settles : (r : Row) (X : CandidateRecord → List ℕ → Type 0)
    → ((listed : Listed r.modulus)
    → Told X (computed r.modulus (listed_prime listed) r.first_list r.second_list r.skeleton r.points r.ceiling))
    → test r ≡ true → X r.found r.terms
unfolding test answers
test_settles r X law h =
    let a = listed_and_means r.modulus (answers r) ((and-eq-true_iff (passes r) _).0 h).1 in
    go _ (law a.0) a.1
  where
    go : (x : Computed) → Told X x → agrees x r.found r.terms ≡ true → X r.found r.terms
    go unanswered s h = (unfold agrees in absurd (false≢true h))
    go (answered number counts ts steps) s h =
        (unfold agrees in numbers_settle X (report number counts (length ts) steps) r.found ts r.terms (same_is _ _ h) s)

-- the test turned into the contract
pub tested : (r : Row) → test r ≡ true → Holds r
tested r h output work long room =
    let c = call r output work in
    let rooms = of_rooms (length output) (length r.skeleton) (length work) in
    let pass = passes_append (input_lines r) rooms (inputs_pass r h) (rooms_pass (λ l. omega arith) work room) in
    test_settles r (λ found terms. Candidate c (candidate_result found (written terms output) (cleared work))) (λ listed. computed_sound c pass listed) h

pub holds_determined : (r : Row) → Holds r → Determined r
holds_determined r h output work long room q meets = candidate_determined (call r output work) q (result r output work) meets (h output work long room)

pub multiplied : (p : ℕ) (P : Prime p) (q : Product) → multiplies p P q ≡ true → Multiplies p P q
unfolding multiplies
multiplied p P q h = nothing_left_means (Modulo p P) (terms_of p P q.whole) (terms_of p P q.first) (terms_of p P q.second) (go _ h)
  where
    go : (l : Polynomial (Modulo p P)) → elim l as (λ _. Bool) [ [] ↦ true | t ∷ ts ↦ false ] ≡ true → l ≡ []
    go [] h = refl
    go (t ∷ ts) h = absurd (false≢true h)

pub lists_pass : (p : ℕ) (A B : List ℕ) → right_lists p A B ≡ true → Passes (of_lists p A B)
unfolding right_lists
lists_pass p A B h = decided_passes (of_lists p A B) tt (list_checks p A B) (eqb-true _ 0 h)

module _ (r : QuotientRow) (output work : List ℕ) (long : keys ≤ length output) (room : work_room ≤ length work) where
  abbrev asked : QuotientCall
  asked = quotient_call_of r output work

  quotient_lines_pass : right_lists r.modulus r.first_list r.second_list ≡ true → Passes (quotient_table asked)
  quotient_lines_pass h = passes_append (of_lists r.modulus r.first_list r.second_list) (of_rooms (length output) keys (length work))
      (lists_pass r.modulus r.first_list r.second_list h) (rooms_pass (λ l. omega arith) work room)

  -- a record and terms of the same numbers as the row's give the row's result
  quotient_known : (found : QuotientRecord) (terms : List ℕ) → same_numbers (quotient_numbers r.found r.terms) (quotient_numbers found terms) ≡ true
      → Quotient asked (quotient_result found (written terms output) (cleared work)) → Quotient asked (quotient_result_of r output work)
  quotient_known found terms h x =
      after_fault_known (λ f l. Quotient asked (quotient_result (record { fault = f; terms = get_or l 0 0 }) (written (drop 1 l) output) (cleared work)))
      found.fault r.found.fault _ _ (sym (same_is _ _ h)) x

  quotient_settled : Passes (quotient_table asked) → (listed : Listed r.modulus) (o : Outcome)
      → Means (Modulo r.modulus (listed_prime listed)) (poly r.modulus (listed_prime listed) r.first_list)
      (poly r.modulus (listed_prime listed) r.second_list) o
      → quotient_agrees r (listed_prime listed) o ≡ true → Quotient asked (quotient_result_of r output work)
  unfolding quotient_agrees
  quotient_settled pass listed (ended n true) m h =
      let first = (and-eq-true_iff _ (same_numbers _ _)).0 h in
      let second = (and-eq-true_iff (right_lists r.modulus r.first_list r.terms) _).0 first.0 in
      let right = lists_are_right r.modulus r.first_list r.terms (lists_pass r.modulus r.first_list r.terms second.0) in
      quotient_known (record { fault = none; terms = length r.terms }) r.terms first.1
      (quotient pass listed r.terms (record {
        right = falling_right r.modulus r.terms right.second.falls;
        product = sym (multiplied r.modulus (listed_prime listed) (product_of r) second.1);
      }))
  quotient_settled pass listed (ended n false) m h =
      quotient_known (record { fault = fault DOES_NOT_DIVIDE 0; terms = 0 }) [] h
      (no_quotient pass listed (λ d. false≢true ((rule_says (listed_prime listed) r.first_list r.second_list m.0 false m.1).1 d)))
  quotient_settled pass listed open_still m h = absurd (false≢true h)

  quotient_tested_here : quotient_test r ≡ true → Quotient asked (quotient_result_of r output work)
  unfolding quotient_test
  quotient_tested_here h =
      let both = (and-eq-true_iff (right_lists r.modulus r.first_list r.second_list) _).0 h in
      let right = lists_are_right r.modulus r.first_list r.second_list (lists_pass r.modulus r.first_list r.second_list both.0) in
      let a = listed_and_means r.modulus _ both.1 in
      quotient_settled (quotient_lines_pass both.0) a.0 _
      (divided_by_means r.modulus (listed_prime a.0) r.second_list r.first_list right.second.some right.second.falls
      right.first.some right.first.falls) a.1

pub quotient_tested : (r : QuotientRow) → quotient_test r ≡ true → QuotientHolds r
quotient_tested r h output work long room = quotient_tested_here r output work long room h

pub image_tested : (r : ImageRow) → image_test r ≡ true → Shows r
unfolding image_test image_passes image_agrees
image_tested r h =
    let both = (and-eq-true_iff (image_passes r) (image_agrees r)).0 h in
    let tested = decided_tested (image_table r.call) (image_checks r.call) in
    let c = r.call in
    let passed = eqb-true _ 0 both.0 in
    let pass = (tested_passes (image_table c) tt _ tested passed).0 in
    let lists = (image_fine _ _ _ _ pass).lists in
    image_answered c.modulus c.first_list c.second_list c.point pass (image_of c.modulus c.first_list c.second_list c.point)
    (model_answers c.modulus c.first_list c.second_list c.point lists refl) (image_known r.found _ (same_is _ _ both.1))
  where
    image_known : (q s : ImageRecord) → image_numbers q ≡ image_numbers s → q ≡ s
    image_known q s e =
        after_fault_known (λ f l. q ≡ record { fault = f; degree = get_or l 0 0; coefficients = drop 1 l }) q.fault s.fault _ _ e refl

-- what follows from a test follows for each of a list
pub each_tested : {X : Type 0} (f : X → Bool) (F : X → Type 0) → ((x : X) → f x ≡ true → F x) → (xs : List X) → every f xs ≡ true → Each F xs
each_tested f F law [] h = tt
each_tested f F law (x ∷ xs) h =
    let both = (and-eq-true_iff (f x) (every f xs)).0 h in
    (law x both.0, each_tested f F law xs both.1)

pub each_follows : {X : Type 0} (F G : X → Type 0) → ((x : X) → F x → G x) → (xs : List X) → Each F xs → Each G xs
each_follows F G law [] h = tt
each_follows F G law (x ∷ xs) h = (law x h.0, each_follows F G law xs h.1)
