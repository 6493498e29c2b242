-- A byte that is no kind's number is not known.
use Rattle.std.proofs.Common.{refl, arith}
use Rattle.case_file.specs.Record.Today.{out_of_range}
use Rattle.case_file.proofs.record.KindTryFromU8.try_from.Goals as goal

pub returns-in_default : goal.returns-in_default
returns-in_default c = let h = c.in_default in (refl, out_of_range c.args.byte (λ r. omega (arith, r.0, r.1)))
