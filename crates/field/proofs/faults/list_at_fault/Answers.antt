-- `list_at_fault` meets its contract. Two numbers of one list stand next to each other, so that each pair is one range of the `match`.
use Rattle.std.proofs.Common.{refl, sym, ap, arith}
use Rattle.field.specs.Numbers.{list_at_fault}
use Rattle.field.specs.Faults.ListAtFault.{list_none, list_of_two}
use Rattle.field.proofs.faults.list_at_fault.Goals as goal

-- 10 and 11
pub returns-in-10 : goal.returns-in-10
unfolding list_at_fault
returns-in-10 c = sym (ap list_at_fault c.in-10.is)

pub returns-in-11 : goal.returns-in-11
unfolding list_at_fault
returns-in-11 c = sym (ap list_at_fault c.in-11.is)

-- 2 and 3, 4 and 5, 6 and 7, 8 and 9
pub returns-in-2 : goal.returns-in-2
unfolding list_at_fault
returns-in-2 c = sym (list_of_two 2 c.args.number (omega arith) (omega arith) refl)

pub returns-in-4 : goal.returns-in-4
unfolding list_at_fault
returns-in-4 c = sym (list_of_two 4 c.args.number (omega arith) (omega arith) refl)

pub returns-in-6 : goal.returns-in-6
unfolding list_at_fault
returns-in-6 c = sym (list_of_two 6 c.args.number (omega arith) (omega arith) refl)

pub returns-in-8 : goal.returns-in-8
unfolding list_at_fault
returns-in-8 c = sym (list_of_two 8 c.args.number (omega arith) (omega arith) refl)

-- 0 and 1, and all others
pub returns-in_default : goal.returns-in_default
unfolding list_at_fault
returns-in_default c = sym (list_of_two 0 c.args.number (omega arith) (omega arith) refl)

pub returns-in_default-2 : goal.returns-in_default-2
returns-in_default-2 c = sym (list_none c.args.number (omega arith))
