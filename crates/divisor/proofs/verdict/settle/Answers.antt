-- `divisor::verdict::settle` meets its contract: what a refusal settles.
use Rattle.divisor.specs.Verdict.Model.{unsolvable, several}
use Rattle.divisor.specs.Verdict.Laws.{settled_refused}
use Rattle.divisor.proofs.verdict.settle.Goals as goal

pub returns-in-None : goal.returns-in-None
returns-in-None c = settled_refused (unsolvable c.in-None.is) c.refused.ensures

pub returns-in-Several : goal.returns-in-Several
returns-in-Several c = settled_refused (several c.in-Several.is) c.refused-in-Several.ensures
