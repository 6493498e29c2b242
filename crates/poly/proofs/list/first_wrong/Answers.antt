-- `poly::list::first_wrong` meets its contract: how `Walked` begins, goes on, stops and ends.
use Rattle.poly.proofs.list.Walk.{walk_begins, walk_stops, walk_goes_on, walk_ends}
use Rattle.poly.proofs.list.first_wrong.Goals as goal

pub loop-i-init : goal.loop-i-init
loop-i-init c = walk_begins _ _

pub returns-then-not-right : goal.returns-then-not-right
returns-then-not-right c =
    walk_stops _ _ _ _ c.loop-i.invariant c.loop-i-test.true _ _ c.of-key.ensures c.coefficient_of-coefficient.ensures c.if-not-right.true

pub loop-i-preserved : goal.loop-i-preserved
loop-i-preserved c =
    walk_goes_on _ _ _ _ c.loop-i.invariant c.loop-i-test.true _ _ c.of-key.ensures c.coefficient_of-coefficient.ensures c.if-not-right.false

pub returns : goal.returns
returns c = walk_ends _ _ _ _ c.loop-i.invariant c.loop-i-test.false
