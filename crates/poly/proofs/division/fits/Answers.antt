-- `poly::division::fits` meets its contract: the divisor's leading monomial is below the remainder's, and the difference is within the bound.
use Rattle.poly.specs.Key.Difference.{at_most_key, fits_not, fits_rest}
use Rattle.poly.proofs.division.fits.Goals as goal

pub returns-then-not-at_most : goal.returns-then-not-at_most
returns-then-not-at_most c = fits_not c.args.lead c.args.bound.bits c.args.k (cc)

pub overflow_sub-k : goal.overflow_sub-k
overflow_sub-k c = at_most_key c.args.lead c.args.k (cc)

pub returns : goal.returns
returns c = fits_rest c.args.lead c.args.bound.bits c.args.k (cc) (cc)
