-- `poly::list::check_lists` meets its contract: the lines of the first list, then those of the second, whose coefficients do not reach the bound.
use Rattle.field.specs.Numbers.{SECOND_COUNT, SECOND_TERM}
use Rattle.field.specs.Faults.Laws.{checked_goes_on}
use Rattle.poly.specs.LeadingPart.{of_list}
use Rattle.poly.specs.Lists.{WrongTerm, of_terms}
use Rattle.poly.specs.List.Check.{checked_without_modulus}
use Rattle.poly.proofs.list.check_lists.Goals as goal

pub returns : goal.returns
returns c =
    let ts = c.args.second.now in
    checked_goes_on (of_list c.args.first.now) (of_terms SECOND_COUNT SECOND_TERM (WrongTerm ts) ts) _ c.in_ok-check_list.ensures
    (checked_without_modulus ts SECOND_COUNT SECOND_TERM _ c.check_terms.ensures)
