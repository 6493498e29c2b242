-- `poly::rooms::clear` meets its contract: filled with 0 up to the end, the numbers are those that it promises.
use Rattle.std.proofs.Common.{◌≤◌, length, length-take-le, arith}
use Rattle.poly.specs.Room.{zeroed}
use Rattle.poly.proofs.rooms.clear.Goals as goal

pub returns : goal.returns
unfolding zeroed
returns c =
    let within : c.min-end.result ≤ length c.args.numbers.now = omega arith in
    rw (c.fill.ensures.after (λ y e. e), length-take-le, c.min-end.ensures, zeroed)
