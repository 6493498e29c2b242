-- `poly::list::leading_part` meets its contract: what it hands back begins where the list does, and ends where the first lower power of x stands.
use Rattle.std.proofs.Common.{refl}
use Rattle.poly.specs.LeadingPart.{refused}
use Rattle.poly.specs.List.Leading.{leading_answered}
use Rattle.poly.proofs.list.leading_part.Goals as goal

pub returns-in-Err : goal.returns-in-Err
returns-in-Err c = record { leading = refused _ c.in-Err.ensures; place = refl }

pub returns-in-Ok : goal.returns-in-Ok
returns-in-Ok c = record { leading = leading_answered c.args.terms.now c.in-Ok.ensures _ c.leading_length.ensures; place = refl }
