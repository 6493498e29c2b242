-- A number of four bytes is put as the library's bytes of it.
use Rattle.case_file.specs.Writer.Turns.{four_bytes}
use Rattle.case_file.proofs.writer.U32Number.write_bytes.Goals as goal

pub returns : goal.returns
returns c = rw (← four_bytes c.args.self, ← c.to_le_bytes.ensures) (record { stored = c.put.ensures.after; counted = c.put.ensures.count })
