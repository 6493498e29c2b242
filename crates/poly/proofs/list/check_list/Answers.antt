-- `poly::list::check_list` meets its contract: no coefficient reaches the bound that it gives.
use Rattle.field.specs.Numbers.{FIRST_COUNT, FIRST_TERM}
use Rattle.poly.specs.List.Check.{checked_without_modulus}
use Rattle.poly.proofs.list.check_list.Goals as goal

pub returns : goal.returns
returns c = checked_without_modulus c.args.terms.now FIRST_COUNT FIRST_TERM _ c.check_terms.ensures
