-- `field::is_modulus` meets its contract: the numbers of the `match` are those of the table.
use Rattle.std.proofs.Common.{sym, rules}
use Rattle.field.specs.Moduli.{listed, moduli}
use Rattle.field.specs.Modulus.Match.{among_true, among_false}
use Rattle.field.proofs.modulus.is_modulus.Goals as goal

pub returns-in-7 : goal.returns-in-7
unfolding listed
returns-in-7 c = sym (among_true moduli c.args.p c.in-7.is)

pub returns-in_default : goal.returns-in_default
unfolding listed
returns-in_default c = sym (among_false moduli c.args.p (search rules))
