-- The right result of a call of the writer, computed: its lines are decided, then the file is written or the call refused.
use Rattle.std.specs.Prelude.{true, false, eqb, length}
use Rattle.std.proofs.Math.Decide.{dec_lt}
use Rattle.field.specs.Numbers.{NOT_WRITABLE, BUFFER_SHORT}
use Rattle.field.specs.declared.faults.Fault.{Fault}
use Rattle.field.specs.Faults.Decision.{Checks, placed_check, decided}
use Rattle.case_file.specs.WriteCall.{WriteCall, file, write_table, WriteResult, write_result, wrote}
use Rattle.case_file.specs.Writer.Check.{unwritable_decided}

unfoldable pub write_checks : (c : WriteCall) → Checks (write_table c)
write_checks c = (
  placed_check NOT_WRITABLE 0 _ (unwritable_decided (length c.first_list) (length c.second_list) (length c.skeleton) (length c.points)),
  (placed_check BUFFER_SHORT 0 _ (dec_lt (length c.buffer) (length (file c))), tt),
)

-- by the fault that the lines give
unfoldable pub by_fault : WriteCall → Fault → WriteResult
by_fault c f = elim (eqb f.number 0) [
  | true ↦ wrote (file c) c.buffer
  | false ↦ write_result (record { fault = f; length = 0 }) c.buffer
]

unfoldable pub right_write : WriteCall → WriteResult
right_write c = by_fault c (decided (write_table c) (write_checks c))
