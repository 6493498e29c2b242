-- `balungkiro_leading_part` meets its contract: it hands back the length of the head.
use Rattle.handheld.specs.Layout.{laid}
use Rattle.handheld.proofs.balungkiro_leading_part.Goals as goal

pub returns : goal.returns
returns c = laid _ c.leading_part-head.ensures.leading
