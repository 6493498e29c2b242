-- Of the records of the list those of what is left of it are still to be put (`Listing`).
use Rattle.std.proofs.Common.{drop}
use Rattle.case_file.specs.WriteCall.{singles_of}
use Rattle.case_file.specs.Kinds.{kind_byte}
use Rattle.case_file.specs.Writer.Turns.{Listing}
use Rattle.case_file.proofs.writer.write_numbers.Given as goal

abbrev pub invariant-loop-number : goal.invariant-loop-number
invariant-loop-number g l = Listing (singles_of g.T.Number.value) (kind_byte l.kind) l.list l.at l.fn.buffer (drop l.number-index l.list) l.next l.buffer
