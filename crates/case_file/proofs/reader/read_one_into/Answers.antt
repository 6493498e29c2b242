-- The loop of `read_one_into`: the arrays hold the case read so far, and reading on gives what reading from the start gives (`Progress`).
use Rattle.std.specs.Prelude.{◌≡◌, ℕ, Bool, true, false, eqb}
use Rattle.std.proofs.Common.{◌+◌, sym, ap, refl, ◌∙◌, arith, eqb-true}
use Rattle.std.proofs.lemmas.Bool.{eqb-false}
use denote.Enum.Bare.{sameb}
use Rattle.case_file.specs.contracts.record.Kind.{the_type}
use Rattle.case_file.specs.declared.record.Kind.{Kind}
use Rattle.case_file.specs.declared.record.Kind.TheVariants.{Modulus, First, Second, Skeleton, Point, End}
use Rattle.case_file.specs.Format.{end_kind}
use Rattle.case_file.specs.Case.{added}
use Rattle.case_file.specs.Handed.{Counts}
use Rattle.case_file.specs.Kinds.{kind_byte}
use Rattle.case_file.specs.Record.Arrays.{gives}
use Rattle.case_file.specs.Reader.Alone.{refused_told}
use Rattle.case_file.specs.Reader.Progress.{begun, out, stopped, ended, fits_in, ready, carried}
use Rattle.case_file.proofs.reader.read_one_into.Goals as goal

ends : (k : Kind) → sameb the_type k End ≡ eqb (kind_byte k) end_kind
ends Modulus = refl
ends First = refl
ends Second = refl
ends Skeleton = refl
ends Point = refl
ends End = refl

-- the counts with another offset
abbrev with_next : ℕ → Counts → Counts
with_next n r =
    record { fault = r.fault; next = n; modulus = r.modulus; first = r.first; second = r.second; skeleton = r.skeleton; points = r.points }

-- whether the byte of a kind is that of the end record, by the test of the code
module _ (k : Kind) {byte : ℕ} {b : Bool} (is : kind_byte k ≡ byte) (same : b ≡ sameb the_type k End) where
  at_end : b ≡ true → byte ≡ end_kind
  at_end h = sym is ∙ eqb-true (kind_byte k) end_kind (sym (ends k) ∙ sym same ∙ h)

  not_at_end : b ≡ false → byte ≡ end_kind → ⊥
  not_at_end h q = eqb-false (kind_byte k) end_kind (sym (ends k) ∙ sym same ∙ h) (is ∙ q)

pub loop-at-init : goal.loop-at-init
loop-at-init c = begun _ c.emptied-counts.ensures

-- the test that found a fault
pub returns-in-Err : goal.returns-in-Err
returns-in-Err c =
    refused_told (stopped c.loop-at.invariant c.loop-at-test.true c.in-Err.ensures.0 c.in-Err.ensures.1) c.in-Err.ensures.1 c.refused.ensures

pub returns-then-eq : goal.returns-then-eq
unfolding added
returns-then-eq c =
    let g = c.loop-at.invariant.given in
    let e = at_end c.in-Ok.kind c.in-Ok.ensures.0 c.eq.ensures c.if-eq.true in
    rw (ended c.loop-at.invariant c.loop-at-test.true (sym c.in-Ok.ensures.1) refl e, e)
    (gives (ap (with_next (c.loop-at.at + 1)) g.record_is) g.first_is g.second_is g.skeleton_is g.points_is)

pub with_record-counts-requires : goal.with_record-counts-requires
with_record-counts-requires c =
    let n = not_at_end c.in-Ok.kind c.in-Ok.ensures.0 c.eq.ensures c.if-eq.false in
    rw c.in-Ok.ensures.0 (ready c.loop-at.invariant c.loop-at-test.true (sym c.in-Ok.ensures.1) refl n)

pub overflow_add-at : goal.overflow_add-at
overflow_add-at c =
    omega (
      arith,
      fits_in c.loop-at.invariant c.loop-at-test.true (sym c.in-Ok.ensures.1) refl,
      rw c.in-Ok.ensures.0 at c.body.ensures,
    )

pub loop-at-preserved : goal.loop-at-preserved
loop-at-preserved c =
    let n = not_at_end c.in-Ok.kind c.in-Ok.ensures.0 c.eq.ensures c.if-eq.false in
    rw (c.body.ensures, c.in-Ok.ensures.0)
    (carried c.loop-at.invariant c.loop-at-test.true (sym c.in-Ok.ensures.1) refl n (rw c.in-Ok.ensures.0 at c.with_record-counts.ensures))

pub returns : goal.returns
returns c = refused_told (out c.loop-at.invariant c.loop-at-test.false) (λ z. omega arith) c.refused-2.ensures
