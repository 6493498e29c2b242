-- `balungkiro_write` meets its contract: it lays out what the writer answers.
use Rattle.handheld.specs.Layout.{laid}
use Rattle.handheld.proofs.balungkiro_write.Goals as goal

pub returns-in-Ok : goal.returns-in-Ok
returns-in-Ok c = rw (c.lay.ensures, c.none.ensures) (laid _ c.in-Ok.ensures)

pub returns-in-Err : goal.returns-in-Err
returns-in-Err c = rw c.lay-in-Err.ensures (laid _ c.in-Err.ensures.1)
