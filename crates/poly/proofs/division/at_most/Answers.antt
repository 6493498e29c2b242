-- `poly::division::at_most` meets its contract: four tests of exponents, as its model makes them.
use Rattle.poly.specs.Division.Model.{at_most}
use Rattle.poly.proofs.division.at_most.Goals as goal

pub returns : goal.returns
unfolding at_most
returns c = cc
