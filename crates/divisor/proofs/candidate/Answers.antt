-- `divisor::candidate` meets its contract: the fault of the table, or the answer.
use Rattle.divisor.specs.Candidate.{refused}
use Rattle.divisor.proofs.candidate.Goals as goal

pub returns-in-Err : goal.returns-in-Err
returns-in-Err c = rw c.refused.ensures (refused _ c.in-Err.ensures)
