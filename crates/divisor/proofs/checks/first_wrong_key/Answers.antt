-- `divisor::checks::first_wrong_key` meets its contract: how the search of the first wrong key begins, stops and goes on.
use Rattle.std.proofs.Common.{◌≡◌, length, subst, arith}
use Rattle.poly.specs.Lists.{WrongKey}
use Rattle.poly.specs.Search.{Searched}
use Rattle.poly.specs.List.Search.{search_begins, search_ends}
use Rattle.divisor.specs.Checks.Laws.{start, keys_stop, keys_next}
use Rattle.divisor.proofs.checks.first_wrong_key.Goals as goal

pub loop-i-init : goal.loop-i-init
loop-i-init c = record { searching = search_begins; before_is = start; in_range = omega arith }

pub returns-then-key-before : goal.returns-then-key-before
returns-then-key-before c = keys_stop _ _ _ c.loop-i.invariant c.loop-i-test.true c.if-key-before.true

pub loop-i-preserved : goal.loop-i-preserved
loop-i-preserved c = keys_next _ _ _ c.loop-i.invariant c.loop-i-test.true c.if-key-before.false

pub returns : goal.returns
returns c =
    let ks = c.args.skeleton.now in
    let all : c.loop-i.i ≡ length ks = omega arith in
    subst (Searched (WrongKey ks) (length ks)) all (search_ends c.loop-i.invariant.searching c.loop-i-test.false)
