-- The loop keeps that the array has the places before i, as many as are counted.
use Rattle.std.proofs.Common.{◌≡◌, ◌≤◌, length}
use Rattle.divisor.specs.Sorting.Model.{places_before, HasPlaces}
use Rattle.divisor.proofs.sorting.places_of.Given as goal

abbrev pub invariant-loop-i : goal.invariant-loop-i
invariant-loop-i l = record {
  few : l.count ≤ l.i;
  counted : l.count ≡ length (places_before l.m l.sizes l.i);
  has : HasPlaces l.m l.sizes l.i l.places;
}
