-- The lines of the writer: line 26 is decided, by computing; and what follows from the check of both lines.
use Rattle.std.specs.Prelude.{◌≡◌, refl, Result, Err, List, ℕ, ◌%◌, ◌≤◌, length}
use Rattle.std.proofs.Common.{subst, arith}
use Rattle.std.proofs.Math.Logic.Dec
use Rattle.std.proofs.Math.Decide.{ℕ_discrete, dec_lt}
use Rattle.field.specs.declared.faults.Fault.{Fault}
use Rattle.field.specs.declared.case.Case.{Case}
use Rattle.field.specs.Refusal.{Line, Passes, Refuses, StandsFor}
use Rattle.field.specs.Faults.Decision.{either_decided}
use Rattle.field.specs.Faults.Laws.{never_placed, refuses_positive, stands_err}
use Rattle.field.specs.Loops.Putting.{Puts, puts_count, puts_written}
use Rattle.case_file.specs.WriteCall.{WriteCall, write_call_of, file, Unwritable, write_table, write_result, refused_write, written_length, Write, refused, accepted}
use Rattle.case_file.specs.Writer.Length.{of_case, length_file}

-- line 26, computed
unfoldable pub unwritable_decided : (first second skeleton points : ℕ) → Dec (Unwritable first second skeleton points)
unwritable_decided first second skeleton points =
    either_decided (dec_lt _ first) (either_decided (dec_lt _ second) (either_decided (dec_lt _ skeleton)
    (either_decided (dec_lt _ points) (Dec.not (ℕ_discrete (points % 3) 0)))))

-- the lines of a case, by the lengths of its lists
module _ (k : Case) (buffer : List ℕ) where
  abbrev call : WriteCall
  call = write_call_of k buffer

  same_lines : of_case k (length buffer) ≡ write_table call
  same_lines = rw (length_file call) refl

  -- an error of the check is that of the call
  pub write_refused : (f : Fault) → Refuses (of_case k (length buffer)) f → {r : Result ℕ Fault} → r ≡ Err f
      → StandsFor refused_write written_length (λ w. Write call (write_result w buffer)) r
  write_refused f h e =
      stands_err refused_write written_length (λ w. Write call (write_result w buffer)) e (refuses_positive (of_case k (length buffer)) tt f h)
      (refused f (subst (λ (ls : List Line). Refuses ls f) same_lines h))

  module _ (pass : Passes (of_case k (length buffer))) where
    passes : Passes (write_table call)
    passes = subst Passes same_lines pass

    pub write_room : length (file call) ≤ length buffer
    write_room = let n = never_placed passes.1.0 in omega arith

    pub write_done : {n : ℕ} {after : List ℕ} → Puts (file call) 0 n buffer after → Write call (write_result (written_length n) after)
    write_done p = rw (puts_count p, puts_written p write_room) (accepted passes)
