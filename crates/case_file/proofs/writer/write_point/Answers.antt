-- `write_point` puts the kind and three numbers one after another.
use Rattle.std.proofs.Common.{rules, arith}
use Rattle.case_file.specs.Written.{bytes}
use Rattle.field.specs.Loops.Putting.{puts_room}
use Rattle.case_file.specs.Writer.Turns.{puts_point}
use Rattle.case_file.proofs.writer.write_point.Goals as goal

-- there is room for what is left of the record
pub write_bytes-third-requires : goal.write_bytes-third-requires
unfolding bytes
write_bytes-third-requires c = puts_room c.write_record-second.ensures 2 (omega (arith, c.requires))

pub write_bytes-requires : goal.write_bytes-requires
unfolding bytes
write_bytes-requires c = puts_room c.write_bytes-third.ensures 2 (puts_room c.write_record-second.ensures 4 c.requires)

pub returns : goal.returns
returns c = search (rules, puts_point)
