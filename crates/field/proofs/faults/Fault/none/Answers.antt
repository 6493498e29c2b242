-- `Fault::none` meets its contract: number 0 is about no list.
use Rattle.std.proofs.Common.{refl}
use Rattle.field.specs.Numbers.{list_at_fault}
use Rattle.field.proofs.faults.Fault.none.Goals as goal

pub returns : goal.returns
unfolding list_at_fault
returns c = refl
