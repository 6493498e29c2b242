-- What a call of the static library leaves begins with the list of its number: its contract refutes another list, as the service's does.
use Rattle.std.specs.Prelude.{ℕ, ◌≡◌, refl, List}
use Rattle.std.proofs.Common.{subst}
use Rattle.field.specs.declared.faults.Fault.{Fault}
use Rattle.field.specs.declared.elements.Element.{Element}
use Rattle.field.specs.Refusal.{Line, fault_in, Tested, AnotherList, RefutesAnotherList}
use Rattle.field.specs.Arithmetic.{Arithmetic}
use Rattle.field.specs.Faults.Laws.{tested_another_list}
use Rattle.field.specs.Services.Laws.{arithmetic_another_list}
use Rattle.poly.specs.QuotientCall.{QuotientCall, Quotient}
use Rattle.poly.specs.ImageCall.{ImageCall, ImageAnswer}
use Rattle.poly.specs.Quotient.Laws.{quotient_another_list}
use Rattle.poly.specs.Image.Call.{image_another_list}
use Rattle.divisor.specs.Candidate.{Call, Candidate}
use Rattle.divisor.specs.Answer.CandidateDetermined.{candidate_another_list}
use Rattle.cancel.specs.CancelCall.{CancelCall, Cancel}
use Rattle.cancel.specs.Cancelling.Determined.{cancel_another_list}
use Rattle.case_file.specs.Reading.{read}
use Rattle.case_file.specs.Handed.{contents}
use Rattle.case_file.specs.WriteCall.{WriteCall, Write}
use Rattle.case_file.specs.Reader.AnotherList.{read_another_list}
use Rattle.case_file.specs.Writer.Determined.{write_another_list}
use Rattle.handheld.specs.Layout.{Laid, laid, of_fault, of_answer, of_quotient, of_candidate, of_cancel, of_image, of_contents, of_write}

-- where the numbers that are left begin with the fault that is found
laid_another_list : {Found Left : Type 0} (layout : Found → Left) (Promise : Found → Type 0) (found : Found → Fault) (numbers : Left → List ℕ)
    → ((x : Found) → fault_in (numbers (layout x)) ≡ found x) → RefutesAnotherList found Promise
    → RefutesAnotherList (λ (l : Left). fault_in (numbers l)) (Laid layout Promise)
laid_another_list layout Promise found numbers begins refuted l other (laid x h) = refuted x (subst AnotherList (begins x) other) h

pub candidate_left_another_list : (c : Call) → RefutesAnotherList (λ l. fault_in l.numbers) (Laid of_candidate (Candidate c))
candidate_left_another_list c = laid_another_list of_candidate (Candidate c) (λ r. r.found.fault) (λ l. l.numbers) (λ x. refl) (candidate_another_list c)

pub cancel_left_another_list : (c : CancelCall) → RefutesAnotherList (λ l. fault_in l.numbers) (Laid of_cancel (Cancel c))
cancel_left_another_list c = laid_another_list of_cancel (Cancel c) (λ r. r.found.fault) (λ l. l.numbers) (λ x. refl) (cancel_another_list c)

pub quotient_left_another_list : (c : QuotientCall) → RefutesAnotherList (λ l. fault_in l.numbers) (Laid of_quotient (Quotient c))
quotient_left_another_list c = laid_another_list of_quotient (Quotient c) (λ r. r.found.fault) (λ l. l.numbers) (λ x. refl) (quotient_another_list c)

pub image_left_another_list : (c : ImageCall) → RefutesAnotherList (λ l. fault_in l.numbers) (Laid of_image (ImageAnswer c))
image_left_another_list c = laid_another_list of_image (ImageAnswer c) (λ r. r.fault) (λ l. l.numbers) (λ x. refl) (image_another_list c)

-- of both list checks
pub check_numbers_another_list : (lines : List Line) → RefutesAnotherList fault_in (Laid of_fault (Tested lines))
check_numbers_another_list lines = laid_another_list of_fault (Tested lines) (λ f. f) (λ l. l) (λ x. refl) (tested_another_list lines)

-- of the four arithmetic calls
pub arithmetic_numbers_another_list : (lines : List Line) (Outcome : Element → Type 0) (a : Element)
    → RefutesAnotherList fault_in (Laid of_answer (Arithmetic lines Outcome a))
arithmetic_numbers_another_list lines Outcome a =
    laid_another_list of_answer (Arithmetic lines Outcome a) (λ r. r.fault) (λ l. l) (λ x. refl) (arithmetic_another_list lines Outcome a)

pub read_left_another_list : (bytes : List ℕ) → RefutesAnotherList (λ l. fault_in l.numbers) (Laid of_contents (λ r. r ≡ contents (read bytes)))
read_left_another_list bytes =
    laid_another_list of_contents (λ r. r ≡ contents (read bytes)) (λ r. r.fault) (λ l. l.numbers) (λ x. refl) (read_another_list bytes)

pub write_left_another_list : (c : WriteCall) → RefutesAnotherList (λ l. fault_in l.numbers) (Laid of_write (Write c))
write_left_another_list c = laid_another_list of_write (Write c) (λ r. r.found.fault) (λ l. l.numbers) (λ x. refl) (write_another_list c)
