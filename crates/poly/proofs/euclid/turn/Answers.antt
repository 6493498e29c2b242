-- `poly::euclid::turn` meets its contract: the number below the size of g is one that the code may divide by.
use Rattle.std.proofs.Common.{arith}
use Rattle.poly.specs.Euclid.Turns.{size_divides, size_fits}
use Rattle.poly.proofs.euclid.turn.Goals as goal

pub make_monic-requires : goal.make_monic-requires
make_monic-requires c =
    record {
      is_listed = c.requires.is_listed;
      numbers = c.requires.second;
      there = omega (arith, size_fits c.args.g.now c.args.n c.requires.sized);
      nonzero = size_divides c.args.g.now c.args.n c.requires.sized c.requires.some;
    }

pub reduce-requires : goal.reduce-requires
reduce-requires c = record { numbers = c.requires.first; degree = omega (arith, size_fits c.args.g.now c.args.n c.requires.sized) }
