-- The loop keeps that the terms made, and those of the keys left, are the divisor's.
use Rattle.std.proofs.Common.{◌≡◌, ◌≤◌, ◌++◌, length, take}
use Rattle.divisor.specs.Monic.Model.{scaled_terms}
use Rattle.divisor.specs.Sorting.Turns.{terms_left}
use Rattle.divisor.proofs.monic.made_monic.Given as goal

abbrev pub invariant-loop-i : goal.invariant-loop-i
invariant-loop-i l = record {
  few : length l.divisor ≤ l.i;
  made :
      l.divisor ++ terms_left l.p l.inverse.value l.skeleton l.values l.i
      ≡ scaled_terms l.p l.inverse.value l.skeleton (take (length l.skeleton) l.values);
}
