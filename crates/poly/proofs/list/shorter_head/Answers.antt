-- `poly::list::shorter_head` meets its contract: each way out names a list and the length of its leading part.
use Rattle.poly.specs.List.Shorter.{shorter_refused, shorter_of_first, shorter_of_second}
use Rattle.poly.proofs.list.shorter_head.Goals as goal

pub returns-in-Err : goal.returns-in-Err
returns-in-Err c = shorter_refused _ _ _ c.in-Err.ensures

pub returns-then-m-n : goal.returns-then-m-n
returns-then-m-n c = shorter_of_second _ _ c.in-Ok.ensures _ _ c.leading_length-n.ensures c.leading_length-m.ensures c.if-m-n.true

pub returns-else-m-n : goal.returns-else-m-n
returns-else-m-n c = shorter_of_first _ _ c.in-Ok.ensures _ _ c.leading_length-n.ensures c.leading_length-m.ensures c.if-m-n.false
