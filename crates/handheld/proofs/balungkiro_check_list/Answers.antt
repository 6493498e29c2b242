-- `balungkiro_check_list` meets its contract: it lays out what the check gives.
use Rattle.std.proofs.Common.{refl}
use Rattle.field.specs.Refusal.{refused, passed}
use Rattle.handheld.specs.Layout.{laid}
use Rattle.handheld.proofs.balungkiro_check_list.Goals as goal

pub returns-in-Ok : goal.returns-in-Ok
returns-in-Ok c = rw (c.lay.ensures, c.none.ensures) (laid _ (passed c.in-Ok.ensures refl))

pub returns-in-Err : goal.returns-in-Err
returns-in-Err c = rw c.lay-in-Err.ensures (laid _ (refused c.in-Err.ensures))
