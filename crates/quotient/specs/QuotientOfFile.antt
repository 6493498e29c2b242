-- The quotient of a case file, A over B, in an output and a work room that are lent.
use Rattle.std.specs.Prelude.{ℕ, List, get_or}
use Rattle.field.specs.declared.faults.Fault.{Fault}
use Rattle.case_file.specs.Format.{modulus_kind, first_kind, second_kind}
use Rattle.case_file.specs.Reading.{Reading}
use Rattle.case_file.specs.Handed.{list}
use Rattle.poly.specs.QuotientCall.{QuotientCall, quotient_call, QuotientResult, quotient_result, Quotient}
use Rattle.console.specs.OfFile.{Answered}

module _ (output work : List ℕ) where
  abbrev pub unread : Fault → QuotientResult
  unread f = quotient_result (record { fault = f; terms = 0 }) output work

  -- the call that a case makes
  abbrev pub call : Reading → QuotientCall
  call o = quotient_call (get_or (list o modulus_kind) 0 0) (list o first_kind) (list o second_kind) output work

  abbrev pub QuotientAnswered : List ℕ → QuotientResult → Type 0
  QuotientAnswered = Answered unread (λ (o : Reading). Quotient (call o)) (λ r. r.found.terms) (λ r. r.output)
