-- `console::answer::candidate_of` meets its contract: the reader's refusal, or the candidate's answer to the case that was read.
use Rattle.console.specs.Answer.Candidate.{candidate_unread, candidate_read}
use Rattle.console.proofs.answer.candidate_of.Goals as goal

pub returns-in-Ok : goal.returns-in-Ok
returns-in-Ok c = candidate_read _ _ _ c.in-Ok.ensures c.case.ensures _ c.candidate.ensures

pub returns-in-Err : goal.returns-in-Err
returns-in-Err c = rw c.refused.ensures (candidate_unread _ _ _ _ c.in-Err.ensures.0 c.in-Err.ensures.1)
