-- The arrays hold the case read so far, and reading on gives what reading from the start gives (`Progress`). The measure is what is left of the file.
use Rattle.std.proofs.Common.{length, ◌-◌}
use Rattle.case_file.specs.Handed.{counted}
use Rattle.case_file.specs.Reader.Progress.{Progress}
use Rattle.case_file.specs.Record.Kinds.{standing}
use Rattle.case_file.proofs.reader.read_one_into.Given as goal

abbrev pub invariant-loop-at : goal.invariant-loop-at
invariant-loop-at l = Progress l.bytes (counted l.counts) l.first l.second l.skeleton l.points (standing l.before) l.at

abbrev pub decreases-loop-at : goal.decreases-loop-at
decreases-loop-at l = length l.bytes - l.at
