-- `balungkiro_shorter_part` meets its contract: it lays out which list is named, behind the number of terms.
use Rattle.handheld.specs.Layout.{laid}
use Rattle.handheld.proofs.balungkiro_shorter_part.Goals as goal

pub returns-in-First : goal.returns-in-First
returns-in-First c = laid _ c.in-First.ensures

pub returns-in-Second : goal.returns-in-Second
returns-in-Second c = laid _ c.in-Second.ensures
