-- `balungkiro_cancel` meets its contract: it lays out what the key answers.
use Rattle.handheld.specs.Layout.{laid}
use Rattle.handheld.proofs.balungkiro_cancel.Goals as goal

pub returns : goal.returns
returns c = rw c.lay.ensures (laid _ c.cancel-told.ensures)
