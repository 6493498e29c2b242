-- `divisor::checks::check_skeleton` meets its contract: behind a count that is right, the first wrong key or none.
use Rattle.std.proofs.Common.{arith}
use Rattle.field.specs.Numbers.{SKELETON_COUNT, SKELETON_KEY}
use Rattle.poly.specs.List.Counted.{well_counted, place_wrong, places_right}
use Rattle.divisor.specs.Candidate.{most_keys}
use Rattle.divisor.specs.Checks.Laws.{keys_beyond}
use Rattle.divisor.proofs.checks.check_skeleton.Goals as goal

pub returns-then-place-skeleton : goal.returns-then-place-skeleton
returns-then-place-skeleton c =
    place_wrong SKELETON_COUNT SKELETON_KEY (well_counted most_keys c.args.skeleton.now c.if-is_empty.ensures (omega arith))
    (keys_beyond _) c.first_wrong_key-place.ensures c.if-place-skeleton.true c.at-then-place-skeleton.ensures

pub returns : goal.returns
returns c =
    places_right SKELETON_COUNT SKELETON_KEY (well_counted most_keys c.args.skeleton.now c.if-is_empty.ensures (omega arith))
    (keys_beyond _) c.first_wrong_key-place.ensures c.if-place-skeleton.false
