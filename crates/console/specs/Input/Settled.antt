-- The first 4,096 bytes of a file settle what is found of it, so a program reads no more.
use Rattle.std.specs.Prelude.{ℕ, List, take}
use Rattle.field.specs.declared.faults.Fault.{Fault}
use Rattle.case_file.specs.Reading.{Reading}
use Rattle.case_file.specs.Reader.Today.{settled}
use Rattle.console.specs.OfFile.{OfFile, refused, asked}

module _ {Found : Type 0} (unread : Fault → Found) (Answer : Reading → Found → Type 0) (bytes : List ℕ) where
  pub of_file_settled : (found : Found) → OfFile unread Answer (take 4096 bytes) found → OfFile unread Answer bytes found
  of_file_settled found (refused n) = rw (settled bytes) (refused (rw (settled bytes) at n))
  of_file_settled found (asked z r a) = asked (rw (settled bytes) at z) r (rw (settled bytes) at a)
