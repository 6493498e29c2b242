-- The loop keeps how many of the sizes that were met are m.
use Rattle.std.proofs.Common.{◌≡◌, take, nat_eq}
use Rattle.std.specs.Prelude.{count_by}
use Rattle.divisor.proofs.sorting.alike.Given as goal

abbrev pub invariant-loop-size : goal.invariant-loop-size
invariant-loop-size l = l.count ≡ count_by (λ s. nat_eq s l.m) (take l.size-index l.sizes)
