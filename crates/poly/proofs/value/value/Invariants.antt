-- The loop keeps the value of the terms from i on, which it has passed, and y^b z^c of the last of them.
use Rattle.std.proofs.Common.{◌≡◌, ◌%◌, ◌≤◌, length, get_or, drop}
use Rattle.field.specs.Contract.{element}
use Rattle.poly.specs.Terms.{key_of}
use Rattle.poly.specs.Value.Monomial.{head}
use Rattle.poly.specs.Value.Model.{value_of}
use Rattle.poly.proofs.value.value.Given as goal

abbrev pub invariant-loop-i : goal.invariant-loop-i
invariant-loop-i l = record {
  within : l.i ≤ length l.terms;
  value : l.r ≡ value_of l.p l.point (drop l.i l.terms);
  key : l.before.bits ≡ key_of (get_or l.terms l.i 0);
  number : l.yz ≡ element l.p (head (get_or l.point 0 0) (get_or l.point 1 0) l.before.bits % l.p);
}
