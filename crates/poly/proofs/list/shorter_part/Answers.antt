-- `poly::list::shorter_part` meets its contract: as many terms of the list that is named as are told are its leading part.
use Rattle.std.proofs.Common.{refl, sym, length-take-le, arith}
use Rattle.poly.specs.ShorterPart.{part_of_first, part_of_second}
use Rattle.poly.specs.List.Shorter.{picked_of_first, picked_of_second}
use Rattle.poly.proofs.list.shorter_part.Goals as goal

pub slice_bounds-result-end : goal.slice_bounds-result-end
slice_bounds-result-end c = sym (length-take-le _ _ (picked_of_first c.in-First.ensures (λ e. omega arith)).0)

pub slice_bounds-result-end-in-Second : goal.slice_bounds-result-end-in-Second
slice_bounds-result-end-in-Second c = sym (length-take-le _ _ (picked_of_second c.in-Second.ensures refl).0)

pub returns-in-First : goal.returns-in-First
returns-in-First c = part_of_first (picked_of_first c.in-First.ensures (λ e. omega arith)).1 refl

pub returns-in-Second : goal.returns-in-Second
returns-in-Second c = part_of_second (picked_of_second c.in-Second.ensures refl).1 refl
