-- `divisor::sorting::alike` meets its contract: what the definition counts is what the library counts by a test.
use Rattle.std.proofs.Common.{arith, ◌≡◌, refl, List, ℕ, nat_eq}
use Rattle.std.specs.Prelude.{count_by}
use Rattle.std.proofs.lemmas.Bool.Decides.{nat_tests}
use Rattle.std.proofs.lemmas.Grind.{common_steps}
use Rattle.std.proofs.lemmas.List.Recursion.{is_count_by}
use Rattle.divisor.specs.Sorting.Model.{alike}
use Rattle.divisor.proofs.sorting.alike.Goals as goal

by_test : (m : ℕ) (sizes : List ℕ) → alike m sizes ≡ count_by (λ s. nat_eq s m) sizes
unfolding alike
by_test m = is_count_by (alike m) (λ s. nat_eq s m) refl (λ s sizes. grind (arith, nat_tests))

pub returns : goal.returns
returns c = rw (by_test c.args.m c.args.sizes.now) (grind (arith, common_steps))
