-- A wrong result that passes its test is refuted by the contract: its row is the only result, and two lists that have another number at one place are
-- not equal.
use Rattle.std.specs.Prelude.{◌≡◌, refl, Bool, true, false, ◌||◌, List, [], ◌∷◌, ◌++◌, ℕ, zero, suc, ◌<◌, eqb, length, get_or, drop, replicate}
use Rattle.std.proofs.Common.{sym, ◌∙◌, ap, append_assoc, arith, take-append-drop}
use Rattle.std.proofs.lemmas.Bool.{false≢true, eqb-false}
use Rattle.std.proofs.Math.Bool.{and-eq-true_iff}
use Rattle.field.specs.Lent.{written}
use Rattle.poly.specs.Room.{work_room, zeroed, cleared}
use Rattle.poly.specs.ImageCall.{ImageRecord}
use Rattle.poly.specs.QuotientCall.{QuotientResult}
use Rattle.poly.specs.Quotient.Laws.{quotient_determined}
use Rattle.poly.specs.Image.Call.{image_determined}
use Rattle.divisor.specs.Candidate.{Result}
use Rattle.cancel.specs.CancelCall.{CancelResult}
use Rattle.case_file.specs.Reading.{read}
use Rattle.case_file.specs.Handed.{contents}
use Rattle.case_file.specs.Writer.Determined.{write_determined}
use Rattle.proved_table.specs.Row.{quotient_call_of, WriteRow}
use Rattle.proved_table.specs.Test.Rows.{numbers, test, quotient_numbers, quotient_test, image_numbers, image_test}
use Rattle.proved_table.specs.Test.RowsLaws.{tested, holds_determined, quotient_tested, image_tested}
use Rattle.proved_table.specs.Test.Cancels.{cancel_numbers, cancel_test}
use Rattle.proved_table.specs.Test.CancelsLaws.{cancel_tested, cancel_holds_determined}
use Rattle.proved_table.specs.Test.Writes.{right_write}
use Rattle.proved_table.specs.Test.WritesLaws.{right_write_meets}
use Rattle.proved_table.specs.Wrong.{Wrong, Begins, work_left, Refuted, QuotientRefuted, WrongCancel, CancelRefuted}
use Rattle.proved_table.specs.Wrong.{ImageRefuted, FileRefuted, WriteRefuted}
use Rattle.proved_table.specs.WrongResults.{WrongCandidate}
use Rattle.proved_table.specs.WrongServices.{WrongQuotient, WrongImage, WrongFile}
use Rattle.proved_table.specs.Test.Wrong.{clash, left_full, differs, wrong_test, wrong_quotient_test, in_numerator, in_denominator, wrong_cancel_test}
use Rattle.proved_table.specs.Test.Wrong.{wrong_image_test, file_numbers, wrong_file_test, write_numbers, wrong_write_test}

-- lists that begin with lists that clash are not equal
clash_means : (xs ys more rest : List ℕ) → clash xs ys ≡ true → xs ++ more ≡ ys ++ rest → ⊥
unfolding clash
clash_means [] [] more rest h e = false≢true h
clash_means [] (y ∷ ys) more rest h e = false≢true h
clash_means (x ∷ xs) [] more rest h e = false≢true h
clash_means (x ∷ xs) (y ∷ ys) more rest h e = go (eqb x y) refl h (λ k. clash_means xs ys more rest k (ap (drop 1) e))
  where
    go : (b : Bool) → eqb x y ≡ b → elim b as (λ _. Bool) [ true ↦ clash xs ys | false ↦ true ] ≡ true → (clash xs ys ≡ true → ⊥) → ⊥
    go true q h again = again h
    go false q h again = eqb-false x y q (ap (λ (l : List ℕ). get_or l 0 0) e)

pub clash_differ : (xs ys : List ℕ) → clash xs ys ≡ true → xs ≡ ys → ⊥
clash_differ xs ys h e = clash_means xs ys [] [] h (ap (◌++ []) e)

-- what is dropped from the front of a list leaves what is dropped from that front first
front_left : (n : ℕ) (front rest : List ℕ) → (more : List ℕ) × (drop n (front ++ rest) ≡ drop n front ++ more)
front_left zero front rest = (rest, refl)
front_left (suc n) [] rest = (drop (suc n) rest, refl)
front_left (suc n) (x ∷ front) rest = front_left n front rest

begins_with : (front list : List ℕ) → Begins front list → list ≡ front ++ drop (length front) list
begins_with front list h = sym (take-append-drop (length front) list) ∙ ap (◌++ drop (length front) list) h

-- what is written into an output whose beginning is known has a known beginning
written_begins : (terms front output : List ℕ) → Begins front output → (more : List ℕ) × (written terms output ≡ written terms front ++ more)
written_begins terms front output h =
    let f = front_left (length terms) front (drop (length front) output) in (
      f.0,
      ap (λ (l : List ℕ). terms ++ drop (length terms) l) (begins_with front output h) ∙ ap (terms ++◌) f.1
          ∙ sym (append_assoc terms (drop (length terms) front) f.0),
    )

cleared_begins : (n : ℕ) (list : List ℕ) → 0 < n → (more : List ℕ) × (zeroed n list ≡ 0 ∷ more)
unfolding zeroed
cleared_begins zero list h = absurd (omega arith)
cleared_begins (suc n) list h = (replicate n 0 ++ drop (suc n) list, refl)

-- a work room that is left and begins with another number than 0 is not cleared
left_full_means : (clears : Bool) (front work : List ℕ) → Begins front work → left_full clears front ≡ true → work_left clears work ≡ cleared work → ⊥
unfolding left_full
left_full_means true front work b h e = false≢true h
left_full_means false front work b h e =
    let c = cleared_begins work_room work (omega arith) in
    clash_means front (0 ∷ []) (drop (length front) work) c.0 h (sym (begins_with front work b) ∙ e ∙ c.1)

-- one of two tests was passed
either : (a b : Bool) → (a || b) ≡ true → (a ≡ true → ⊥) → (b ≡ true → ⊥) → ⊥
either true b h f g = f refl
either false b h f g = g h

-- the record, the output or the work room is another than the right one
pub differs_means : {R F : Type 0} (w : Wrong R F) (shown : F → List ℕ) (found : F) (terms : List ℕ) → differs w shown found terms ≡ true
    → (output work : List ℕ) → Begins w.output_begins output → Begins w.work_begins work
    → w.found ≡ found → written w.terms output ≡ written terms output → work_left w.clears work ≡ cleared work → ⊥
unfolding differs
differs_means w shown found terms h output work b c same_found same_output same_work =
    either _ (left_full w.clears w.work_begins) h (λ two. either (clash (shown w.found) (shown found)) _ two
    (λ k. clash_differ (shown w.found) (shown found) k (ap shown same_found))
    (λ k.
    let wrong = written_begins w.terms w.output_begins output b in
    let right = written_begins terms w.output_begins output b in
    clash_means (written w.terms w.output_begins) (written terms w.output_begins) wrong.0 right.0 k
    (sym wrong.1 ∙ same_output ∙ right.1)))
    (λ k. left_full_means w.clears w.work_begins work c k same_work)

pub refuted : (w : WrongCandidate) → wrong_test w ≡ true → Refuted w
unfolding wrong_test
refuted w h output work long room b c meets =
    let both = (and-eq-true_iff (test w.row) _).0 h in
    let e = holds_determined w.row (tested w.row both.0) output work long room _ meets in
    differs_means w (λ r. numbers r []) w.row.found w.row.terms both.1 output work b c
    (ap (λ (r : Result). r.found) e) (ap (λ (r : Result). r.output) e) (ap (λ (r : Result). r.work) e)

pub quotient_refuted : (w : WrongQuotient) → wrong_quotient_test w ≡ true → QuotientRefuted w
unfolding wrong_quotient_test
quotient_refuted w h output work long room b c meets =
    let both = (and-eq-true_iff (quotient_test w.row) _).0 h in
    let e = quotient_determined (quotient_call_of w.row output work) _ _ meets (quotient_tested w.row both.0 output work long room) in
    differs_means w (λ r. quotient_numbers r []) w.row.found w.row.terms both.1 output work b c
    (ap (λ (r : QuotientResult). r.found) e) (ap (λ (r : QuotientResult). r.output) e) (ap (λ (r : QuotientResult). r.work) e)

pub cancel_refuted : (w : WrongCancel) → wrong_cancel_test w ≡ true → CancelRefuted w
unfolding wrong_cancel_test
cancel_refuted w h numerator denominator work long long' room a b c meets =
    let both = (and-eq-true_iff (cancel_test w.row) _).0 h in
    let e = cancel_holds_determined w.row (cancel_tested w.row both.0) numerator denominator work long long' room _ meets in
    let found = ap (λ (r : CancelResult). r.found) e in
    let left = ap (λ (r : CancelResult). r.work) e in
    either _ (differs (in_denominator w) cancel_numbers w.row.found w.row.denominator) both.1
    (λ k. differs_means (in_numerator w) cancel_numbers w.row.found w.row.numerator k numerator work a c
    found (ap (λ (r : CancelResult). r.numerator_output) e) left)
    (λ k. differs_means (in_denominator w) cancel_numbers w.row.found w.row.denominator k denominator work b c
    found (ap (λ (r : CancelResult). r.denominator_output) e) left)

pub image_refuted : (w : WrongImage) → wrong_image_test w ≡ true → ImageRefuted w
unfolding wrong_image_test
image_refuted w h meets =
    let both = (and-eq-true_iff (image_test w.row) _).0 h in
    clash_differ (image_numbers w.found) (image_numbers w.row.found) both.1
    (ap (λ (r : ImageRecord). image_numbers r) (image_determined w.row.call w.found w.row.found meets (image_tested w.row both.0)))

pub file_refuted : (w : WrongFile) → wrong_file_test w ≡ true → FileRefuted w
unfolding wrong_file_test
file_refuted w h e = clash_differ (file_numbers w.found) (file_numbers (contents (read w.row.bytes))) h (ap file_numbers e)

pub write_refuted : (w : WriteRow) → wrong_write_test w ≡ true → WriteRefuted w
unfolding wrong_write_test
write_refuted w h meets =
    clash_differ (write_numbers w.result) (write_numbers (right_write w.call)) h
    (ap write_numbers (write_determined w.call w.result (right_write w.call) meets (right_write_meets w.call)))
