-- `poly::list::check_terms` meets its contract: each way out is an answer of the check.
use Rattle.std.proofs.Common.{arith}
use Rattle.poly.specs.Lists.{most_terms}
use Rattle.poly.specs.List.Check.{wrong_beyond}
use Rattle.poly.specs.List.Counted.{well_counted, place_wrong, places_right}
use Rattle.poly.proofs.list.check_terms.Goals as goal

pub returns-then-place-terms : goal.returns-then-place-terms
returns-then-place-terms c =
    let a = c.args in
    place_wrong a.count a.term (well_counted most_terms a.terms.now c.if-is_empty.ensures (omega arith))
    (wrong_beyond a.bound a.terms.now) c.first_wrong-place.ensures c.if-place-terms.true c.at-then-place-terms.ensures

pub returns : goal.returns
returns c =
    let a = c.args in
    places_right a.count a.term (well_counted most_terms a.terms.now c.if-is_empty.ensures (omega arith))
    (wrong_beyond a.bound a.terms.now) c.first_wrong-place.ensures c.if-place-terms.false
