-- A number of two bytes is put as the library's bytes of it.
use Rattle.case_file.specs.Writer.Turns.{two_bytes}
use Rattle.case_file.proofs.writer.U16Number.write_bytes.Goals as goal

pub returns : goal.returns
returns c = rw (← two_bytes c.args.self, ← c.to_le_bytes.ensures) (record { stored = c.put.ensures.after; counted = c.put.ensures.count })
