-- `balungkiro_candidate` meets its contract: it lays out what the service answers.
use Rattle.handheld.specs.Layout.{laid}
use Rattle.handheld.proofs.balungkiro_candidate.Goals as goal

pub returns : goal.returns
returns c = rw c.lay.ensures (laid _ c.candidate-found.ensures)
