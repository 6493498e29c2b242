-- `write` refuses by its check, or writes the file into a buffer that the check found long enough.
use Rattle.field.specs.Faults.Laws.{exit_err}
use Rattle.case_file.specs.Writer.Check.{write_refused, write_room, write_done}
use Rattle.case_file.proofs.writer.write.Goals as goal

pub returns-in_err-check_lengths : goal.returns-in_err-check_lengths
returns-in_err-check_lengths c =
    write_refused c.args.case.now c.args.buffer.now _ c.in_err-check_lengths.ensures (exit_err _ c.from_residual.ensures.1)

pub write_case-requires : goal.write_case-requires
write_case-requires c = write_room c.args.case.now c.args.buffer.now c.in_ok-check_lengths.ensures

pub returns : goal.returns
returns c = write_done c.args.case.now c.args.buffer.now c.in_ok-check_lengths.ensures c.write_case.ensures
