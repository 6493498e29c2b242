-- The candidate of a case file, in an output and a work room that are lent.
use Rattle.std.specs.Prelude.{ℕ, List, get_or}
use Rattle.field.specs.declared.faults.Fault.{Fault}
use Rattle.case_file.specs.Format.{modulus_kind, first_kind, second_kind, skeleton_kind, point_kind}
use Rattle.case_file.specs.Reading.{Reading}
use Rattle.case_file.specs.Handed.{list}
use Rattle.divisor.specs.Candidate.{Call, candidate_call, most_steps, Result, candidate_result, Candidate, refused_record}
use Rattle.console.specs.OfFile.{OfFile, Answered}

module _ (output work : List ℕ) where
  abbrev pub unread : Fault → Result
  unread f = candidate_result (refused_record f) output work

  -- the call that a case makes, with a ceiling that is never reached
  abbrev pub call : Reading → Call
  call o =
      candidate_call (get_or (list o modulus_kind) 0 0) (list o first_kind) (list o second_kind) (list o skeleton_kind) (list o point_kind) most_steps
      output work

  abbrev pub CandidateOfFile : List ℕ → Result → Type 0
  CandidateOfFile = OfFile unread (λ (o : Reading). Candidate (call o))

  abbrev pub CandidateAnswered : List ℕ → Result → Type 0
  CandidateAnswered = Answered unread (λ (o : Reading). Candidate (call o)) (λ r. r.found.terms) (λ r. r.output)
