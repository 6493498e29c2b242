-- Of the records of the list those of what is left behind i points are still to be put (`Listing`).
use Rattle.std.proofs.Common.{◌*◌, drop}
use Rattle.case_file.specs.Format.{point_kind}
use Rattle.case_file.specs.WriteCall.{triples}
use Rattle.case_file.specs.Writer.Turns.{Listing}
use Rattle.case_file.proofs.writer.write_points.Given as goal

abbrev pub invariant-loop-i : goal.invariant-loop-i
invariant-loop-i l = Listing triples point_kind l.numbers l.at l.fn.buffer (drop (3 * l.i) l.numbers) l.next l.buffer
