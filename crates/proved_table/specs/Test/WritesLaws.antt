-- The computed result of a call of the writer meets the writer's contract.
use Rattle.std.specs.Prelude.{◌≡◌, refl, Bool, true, false, eqb}
use Rattle.std.proofs.Common.{eqb-true}
use Rattle.std.proofs.lemmas.Bool.{eqb-false}
use Rattle.field.specs.Refusal.{Tested}
use Rattle.field.specs.declared.faults.Fault.{Fault}
use Rattle.field.specs.Faults.Laws.{tested_passes, tested_refuses}
use Rattle.field.specs.Faults.Decision.{decided, decided_tested}
use Rattle.case_file.specs.WriteCall.{WriteCall, file, write_table, WriteResult, write_result, wrote, Write, refused, accepted}
use Rattle.proved_table.specs.Test.Writes.{write_checks, by_fault, right_write}

by_fault_meets : (c : WriteCall) (f : Fault) → Tested (write_table c) f → Write c (by_fault c f)
unfolding by_fault
by_fault_meets c f t = go (eqb f.number 0) refl
  where
    go : (b : Bool) → eqb f.number 0 ≡ b → Write c (elim b as (λ _. WriteResult) [
      | true ↦ wrote (file c) c.buffer
      | false ↦ write_result (record { fault = f; length = 0 }) c.buffer
    ])
    go true e = accepted (tested_passes (write_table c) tt f t (eqb-true f.number 0 e)).0
    go false e = refused f (tested_refuses (write_table c) f t (eqb-false f.number 0 e))

pub right_write_meets : (c : WriteCall) → Write c (right_write c)
unfolding right_write
right_write_meets c = by_fault_meets c (decided (write_table c) (write_checks c)) (decided_tested (write_table c) (write_checks c))
