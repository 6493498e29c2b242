-- What is found where a file is read and a service is asked of the case: the reader's refusal, or the service's answer.
use Rattle.std.specs.Prelude.{ℕ, ◌≡◌, List}
use Rattle.console.specs.Counts.{IsPrefixLen}
use Rattle.field.specs.declared.faults.Fault.{Fault}
use Rattle.case_file.specs.Reading.{Reading, read}
use Rattle.case_file.specs.Handed.{fault}

module _ {Found : Type 0} (unread : Fault → Found) (Answer : Reading → Found → Type 0) where
  pub data OfFile (bytes : List ℕ) : Found → Type 0 where
    refused : ¬ ((fault (read bytes)).number ≡ 0) → OfFile bytes (unread (fault (read bytes)))
    asked : (fault (read bytes)).number ≡ 0 → (found : Found) → Answer (read bytes) found → OfFile bytes found

  -- the promise of a call on the bytes of a file: and the terms that are found stand first in the output
  pub record Answered (terms : Found → ℕ) (output : Found → List ℕ) (bytes : List ℕ) (found : Found) : Type 0 where
    pub is : OfFile bytes found
    pub terms_first : IsPrefixLen (terms found) (output found)
