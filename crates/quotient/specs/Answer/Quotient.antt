-- A reader's refusal, and the quotient service's answer to what was read, meet the promise of a call on a file; two results that meet it are equal.
use Rattle.std.specs.Prelude.{ℕ, ◌≡◌, ◌<◌, List}
use Rattle.field.specs.declared.case.Case.{Case}
use Rattle.field.specs.declared.faults.Fault.{Fault}
use Rattle.case_file.specs.Reading.{read}
use Rattle.case_file.specs.declared.Contents.{Contents as ReadContents}
use Rattle.case_file.specs.Handed.{contents, contained, refused_contents, Lends}
use Rattle.poly.specs.QuotientCall.{quotient_call, QuotientResult, Quotient}
use Rattle.poly.specs.Quotient.Laws.{quotient_determined}
use Rattle.console.specs.Answer.OfFile.{by_refusal, by_answer, of_file_determined}
use Rattle.console.specs.Answer.TermsFirst.{none_first, quotient_first}
use Rattle.quotient.specs.QuotientOfFile.{unread, call, QuotientAnswered}

module _ (bytes output work : List ℕ) where
  pub quotient_answered_determined : (r q : QuotientResult) → QuotientAnswered output work bytes r → QuotientAnswered output work bytes q → r ≡ q
  quotient_answered_determined r q x y =
      of_file_determined _ _ bytes (λ o. quotient_determined (call output work o)) r q x.is y.is

  -- what a call on the bytes of a file answers, by what the reader says of them
  pub quotient_unread : (f : Fault) → 0 < f.number → refused_contents f ≡ contents (read bytes)
      → QuotientAnswered output work bytes (unread output work f)
  quotient_unread = by_refusal (unread output work) (λ p a b k n. Quotient (quotient_call p a b output work)) _ _ bytes
      (λ f. none_first output) (λ p a b k n. quotient_first _)

  pub quotient_read : {c : ReadContents} {k : Case} → contained c ≡ contents (read bytes) → Lends c k
      → (r : QuotientResult) → Quotient (quotient_call k.modulus k.first.now k.second.now output work) r → QuotientAnswered output work bytes r
  quotient_read = by_answer (unread output work) (λ p a b k n. Quotient (quotient_call p a b output work)) _ _ bytes
      (λ f. none_first output) (λ p a b k n. quotient_first _)
