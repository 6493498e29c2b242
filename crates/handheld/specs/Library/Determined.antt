-- What a call of the static library hands back and leaves in what is lent is determined by its contract, as the service's result is.
use Rattle.std.specs.Prelude.{ℕ, ◌≡◌, List, length}
use Rattle.std.proofs.Common.{sym, ◌∙◌, ap}
use Rattle.field.specs.declared.elements.Element.{Element}
use Rattle.field.specs.Refusal.{Tested}
use Rattle.field.specs.Arithmetic.{AskSum, AskDifference, AskProduct, AskInverse}
use Rattle.field.specs.Services.Laws.{sum_determined, difference_determined, product_determined, inverse_determined}
use Rattle.poly.specs.LeadingPart.{of_list, LeadingTerms}
use Rattle.poly.specs.ShorterPart.{of_two_lists, ShorterHead}
use Rattle.poly.specs.QuotientCall.{QuotientCall, Quotient}
use Rattle.poly.specs.ImageCall.{ImageCall, ImageAnswer}
use Rattle.poly.specs.List.Check.{list_check_determined, two_lists_check_determined}
use Rattle.poly.specs.List.Leading.{leading_terms_determined}
use Rattle.poly.specs.List.Shorter.{shorter_head_determined}
use Rattle.poly.specs.Quotient.Laws.{quotient_determined}
use Rattle.poly.specs.Image.Call.{image_determined}
use Rattle.divisor.specs.Candidate.{Call, Candidate}
use Rattle.divisor.specs.Answer.CandidateDetermined.{candidate_determined}
use Rattle.cancel.specs.CancelCall.{CancelCall, Cancel}
use Rattle.cancel.specs.Cancelling.Determined.{cancel_determined}
use Rattle.case_file.specs.Reading.{read}
use Rattle.case_file.specs.Handed.{contents}
use Rattle.case_file.specs.WriteCall.{WriteCall, Write}
use Rattle.case_file.specs.Writer.Determined.{write_determined}
use Rattle.handheld.specs.Layout.{Laid, laid, of_fault, of_picked, of_answer, of_quotient, of_candidate, of_cancel, of_image, of_contents, of_write}

-- two results that meet one contract are equal
abbrev pub Determined : {Found Left : Type 0} → (Found → Left) → (Found → Type 0) → Type 0
Determined {Left = Left} layout Promise = (l m : Left) → Laid layout Promise l → Laid layout Promise m → l ≡ m

laid_determined : {Found Left : Type 0} (layout : Found → Left) (Promise : Found → Type 0)
    → ((x y : Found) → Promise x → Promise y → x ≡ y) → Determined layout Promise
laid_determined layout Promise one l m (laid x h) (laid y k) = ap layout (one x y h k)

pub candidate_left_determined : (c : Call) → Determined of_candidate (Candidate c)
candidate_left_determined c = laid_determined of_candidate (Candidate c) (candidate_determined c)

pub cancel_left_determined : (c : CancelCall) → Determined of_cancel (Cancel c)
cancel_left_determined c = laid_determined of_cancel (Cancel c) (cancel_determined c)

pub quotient_left_determined : (c : QuotientCall) → Determined of_quotient (Quotient c)
quotient_left_determined c = laid_determined of_quotient (Quotient c) (quotient_determined c)

pub image_left_determined : (c : ImageCall) → Determined of_image (ImageAnswer c)
image_left_determined c = laid_determined of_image (ImageAnswer c) (image_determined c)

pub leading_length_determined : (terms : List ℕ) → Determined length (LeadingTerms terms)
leading_length_determined terms = laid_determined length (LeadingTerms terms) (leading_terms_determined terms)

pub check_numbers_determined : (terms : List ℕ) → Determined of_fault (Tested (of_list terms))
check_numbers_determined terms = laid_determined of_fault (Tested (of_list terms)) (list_check_determined terms)

pub shorter_numbers_determined : (first second : List ℕ) → Determined of_picked (ShorterHead first second)
shorter_numbers_determined first second = laid_determined of_picked (ShorterHead first second) (λ r q h k. shorter_head_determined h k)

pub check_both_numbers_determined : (first second : List ℕ) → Determined of_fault (Tested (of_two_lists first second))
check_both_numbers_determined first second =
    laid_determined of_fault (Tested (of_two_lists first second)) (two_lists_check_determined first second)

pub sum_numbers_determined : (a b : Element) → Determined of_answer (AskSum a b)
sum_numbers_determined a b = laid_determined of_answer (AskSum a b) (sum_determined a b)

pub difference_numbers_determined : (a b : Element) → Determined of_answer (AskDifference a b)
difference_numbers_determined a b = laid_determined of_answer (AskDifference a b) (difference_determined a b)

pub product_numbers_determined : (a b : Element) → Determined of_answer (AskProduct a b)
product_numbers_determined a b = laid_determined of_answer (AskProduct a b) (product_determined a b)

pub inverse_numbers_determined : (a : Element) → Determined of_answer (AskInverse a)
inverse_numbers_determined a = laid_determined of_answer (AskInverse a) (inverse_determined a)

pub read_left_determined : (bytes : List ℕ) → Determined of_contents (λ r. r ≡ contents (read bytes))
read_left_determined bytes = laid_determined of_contents (λ r. r ≡ contents (read bytes)) (λ x y h k. h ∙ sym k)

pub write_left_determined : (c : WriteCall) → Determined of_write (Write c)
write_left_determined c = laid_determined of_write (Write c) (write_determined c)
