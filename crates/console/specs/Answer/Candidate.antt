-- A reader's refusal, and the candidate's answer to what was read, meet the promise of a call on a file; two results that meet it are equal. A reader's
-- refusal names no list.
use Rattle.std.specs.Prelude.{ℕ, ◌≡◌, ◌<◌, List}
use Rattle.field.specs.declared.case.Case.{Case}
use Rattle.field.specs.declared.faults.Fault.{Fault}
use Rattle.field.specs.Numbers.{LIST_NONE}
use Rattle.case_file.specs.Reading.{read}
use Rattle.case_file.specs.declared.Contents.{Contents as ReadContents}
use Rattle.case_file.specs.Handed.{fault, contents, contained, refused_contents, Lends}
use Rattle.case_file.specs.Reader.AnotherList.{read_names_none}
use Rattle.divisor.specs.Candidate.{candidate_call, call_of, most_steps, Result, Candidate}
use Rattle.divisor.specs.Answer.CandidateDetermined.{candidate_determined}
use Rattle.console.specs.OfFile.{refused, asked}
use Rattle.console.specs.CandidateOfFile.{unread, call, CandidateOfFile, CandidateAnswered}
use Rattle.console.specs.Answer.OfFile.{by_refusal, by_answer, of_file_determined}
use Rattle.console.specs.Answer.TermsFirst.{none_first, candidate_first}

module _ (bytes output work : List ℕ) where
  pub candidate_answered_determined : (r q : Result) → CandidateAnswered output work bytes r → CandidateAnswered output work bytes q → r ≡ q
  candidate_answered_determined r q x y =
      of_file_determined _ _ bytes (λ o. candidate_determined (call output work o)) r q x.is y.is

  -- what a call on the bytes of a file answers, by what the reader says of them
  pub candidate_unread : (f : Fault) → 0 < f.number → refused_contents f ≡ contents (read bytes)
      → CandidateAnswered output work bytes (unread output work f)
  candidate_unread = by_refusal (unread output work) (λ p a b k n. Candidate (candidate_call p a b k n most_steps output work)) _ _ bytes
      (λ f. none_first output) (λ p a b k n. candidate_first _)

  pub candidate_read : {c : ReadContents} {k : Case} → contained c ≡ contents (read bytes) → Lends c k
      → (r : Result) → Candidate (call_of k most_steps output work) r → CandidateAnswered output work bytes r
  candidate_read = by_answer (unread output work) (λ p a b k n. Candidate (candidate_call p a b k n most_steps output work)) _ _ bytes (λ f. none_first output)
      (λ p a b k n. candidate_first _)

  pub unread_names_none : (r : Result) → CandidateOfFile output work bytes r → ¬ ((fault (read bytes)).number ≡ 0) → r.found.fault.list ≡ LIST_NONE
  unread_names_none r (refused n) h = read_names_none bytes
  unread_names_none r (asked z found a) h = absurd (h z)
