-- `divisor::answer` meets its contract: the look at the points, their counts, the equations, the solution and the verdict, each as its call promises, make
-- up what the rule answers.
use Rattle.std.proofs.Common.{◌≡◌, ◌+◌, ◌/◌, ◌≤◌, length, sym, ◌∙◌, length-take-le, arith}
use Rattle.divisor.specs.Candidate.{Call, call_of}
use Rattle.divisor.specs.Checks.Passed.{look_ready}
use Rattle.divisor.specs.Sorting.Kept.{room_after, SomeGood, placed, can_solve, count_small, counts_fit}
use Rattle.divisor.specs.Answer.Laws.{nothing_good, ready_verdict, answered_so}
use Rattle.divisor.proofs.answer.Goals as goal
use Rattle.divisor.proofs.answer.Goals.{After-look-looked, After-alike-kept}

-- the call that is answered, as the look at the points has it, and as what follows the counts has it
abbrev looked : After-look-looked → Call
looked c =
    let a = c.args in call_of a.case.now a.ceiling a.out.now a.work.now

abbrev counted : After-alike-kept → Call
counted c =
    let a = c.args in call_of a.case.now a.ceiling a.out.now a.work.now

-- what is found where some point is good
good : (c : After-alike-kept) → ¬ (c.least_size-least.result ≡ 0)
    → SomeGood (counted c) c.look-looked.new.work c.look-looked.result c.least_size-least.result c.alike-kept.result
good c some = record {
  pass = c.requires;
  look = c.look-looked.ensures;
  is_least = c.least_size-least.ensures;
  some = some;
  is_count = c.alike-kept.ensures;
}

-- bad and kept points are not more than all
fit : (c : After-alike-kept) → ¬ (c.least_size-least.result ≡ 0) → c.alike-bad.result + c.alike-kept.result ≤ length c.args.case.now.points.now / 3
fit c some = counts_fit (good c some) c.alike-bad.result c.alike-bad.ensures

pub look-looked-requires : goal.look-looked-requires
look-looked-requires c =
    let a = c.args in
    look_ready (call_of a.case.now a.ceiling a.out.now a.work.now) c.requires

pub no_good_point-requires : goal.no_good_point-requires
no_good_point-requires c =
    room_after (looked (goal.at.no_good_point-requires c).After-look-looked) c.requires _ c.look-looked.result c.look-looked.ensures

pub returns-then-least-eq0 : goal.returns-then-least-eq0
returns-then-least-eq0 c =
    nothing_good (looked (goal.at.returns-then-least-eq0 c).After-look-looked) c.requires _ c.look-looked.result c.look-looked.ensures
    (sym c.least_size-least.ensures ∙ c.if-least-eq0.true) _ c.no_good_point.result c.no_good_point.ensures

pub slice_bounds-places-end : goal.slice_bounds-places-end
slice_bounds-places-end c =
    omega (arith, count_small (good (goal.at.slice_bounds-places-end c).After-alike-kept c.if-least-eq0.false), c.places_of-places.ensures.long)

pub slice_bounds-solved-end : goal.slice_bounds-solved-end
slice_bounds-solved-end c =
    let g = good (goal.at.slice_bounds-solved-end c).After-alike-kept c.if-least-eq0.false in
    sym (length-take-le c.alike-kept.result c.places_of-places.result (omega (arith, count_small g, c.places_of-places.ensures.long)))

pub solved-solved-requires : goal.solved-solved-requires
solved-solved-requires c =
    let g = good (goal.at.solved-solved-requires c).After-alike-kept c.if-least-eq0.false in
    can_solve g _ (placed g c.places_of-places.ensures)

pub settle-requires : goal.settle-requires
settle-requires c =
    let g = good (goal.at.settle-requires c).After-alike-kept c.if-least-eq0.false in
    ready_verdict g _ (placed g c.places_of-places.ensures)
    c.solved-solved.result c.solved-solved.ensures

pub overflow_sub-sorted-2 : goal.overflow_sub-sorted-2
overflow_sub-sorted-2 c = omega (arith, fit (goal.at.overflow_sub-sorted-2 c).After-alike-kept c.if-least-eq0.false)

pub overflow_sub-sorted-3 : goal.overflow_sub-sorted-3
overflow_sub-sorted-3 c = omega (arith, fit (goal.at.overflow_sub-sorted-3 c).After-alike-kept c.if-least-eq0.false)

pub returns-in-Ok : goal.returns-in-Ok
returns-in-Ok c =
    let g = good (goal.at.returns-in-Ok c).After-alike-kept c.if-least-eq0.false in
    answered_so g _ (placed g c.places_of-places.ensures)
    c.solved-solved.result c.solved-solved.ensures c.alike-bad.result c.alike-bad.ensures
    _ c.in-Ok.ensures c.none.result c.none.ensures

pub returns-in-Err : goal.returns-in-Err
returns-in-Err c =
    let g = good (goal.at.returns-in-Err c).After-alike-kept c.if-least-eq0.false in
    answered_so g _ (placed g c.places_of-places.ensures)
    c.solved-solved.result c.solved-solved.ensures c.alike-bad.result c.alike-bad.ensures
    _ c.in-Err.ensures c.at.result c.at.ensures
