-- The laws of reading in today's format: each is the law of any format, at `today`.
use Rattle.std.specs.Prelude.{ℕ, ◌+◌, ◌≤◌, ◌≡◌, ◌↔◌, List, ◌++◌, length, take}
use Rattle.case_file.specs.Format.{base, fullest, today}
use Rattle.case_file.specs.Case.{Case}
use Rattle.case_file.specs.Reading.{whole, read_one, read}
use Rattle.case_file.specs.Written.{file_of, Below, Storable}
use Rattle.case_file.specs.Handed.{fault}
use Rattle.case_file.specs.Record.Today.{well_formed, enough_in_buffer}
use Rattle.case_file.specs.Reader.ReadBack as back
use Rattle.case_file.specs.Reader.RoundTrip as trip
use Rattle.case_file.specs.Reader.Accepted.{Holds}
use Rattle.case_file.specs.Reader.Accepted as exact
use Rattle.case_file.specs.Reader.Settled as cut

pub read_one_of_written : (c : Case) → Storable today c → (rest : List ℕ) → read_one (file_of today c ++ rest) ≡ whole c (length (file_of today c))
read_one_of_written = trip.read_one_of_written today well_formed

pub read_of_written : (c : Case) → Storable today c → read (file_of today c) ≡ whole c (length (file_of today c))
read_of_written = exact.read_of_written today well_formed

module _ (bs : List ℕ) where
  pub written_of_read_one : (c : Case) (n : ℕ) → Below base bs → read_one bs ≡ whole c n
      → (rest : List ℕ) × (bs ≡ file_of today c ++ rest) × (n + length rest ≡ length bs) × Storable today c
  written_of_read_one = back.written_of_read_one today well_formed bs

  pub accepted : (c : Case) (n : ℕ) → Below base bs → (read bs ≡ whole c n) ↔ Holds today bs c n
  accepted = exact.accepted today well_formed bs

  pub accepted_written : Below base bs → ((fault (read bs)).number ≡ 0) ↔ ((c : Case) × Storable today c × (bs ≡ file_of today c))
  accepted_written = exact.accepted_written today well_formed bs

  pub never_longer : (c : Case) (n : ℕ) → read bs ≡ whole c n → length bs ≤ fullest today
  never_longer = cut.never_longer today bs

  -- the programs read a buffer of 4,096 bytes
  pub settled : read (take 4096 bs) ≡ read bs
  settled = cut.settled today bs 4096 enough_in_buffer
