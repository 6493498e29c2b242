-- `tested` makes the tests of a record one after another: each answer is that of the first test that fails, by what the tests before it left.
use Rattle.std.proofs.Common.{sym, ◌∙◌, true≢false, arith}
use Rattle.case_file.specs.Format.{today}
use Rattle.case_file.specs.Record.Tests.{fails_known, fails_order, fails_whole, fails_limit, passes}
use Rattle.std.specs.Prelude.{Result, Ok, Err, IsErr, IsErrAnd, ℕ, ◌≡◌}
use Rattle.case_file.specs.declared.record.Kind.{Kind}
use Rattle.case_file.specs.Handed.{counted}
use Rattle.case_file.specs.Record.Room.{held as held_of}
use Rattle.case_file.specs.Record.Kinds.{kind_known, standing, Tests}
use Rattle.case_file.proofs.record.tested.Goals as goal

pub returns-then-not-follows : goal.returns-then-not-follows
returns-then-not-follows c =
    rw (← c.in_ok-kind.ensures) (fails_order today _ _ _ _ (kind_known _) (sym c.follows.ensures ∙ c.if-not-follows.true), λ z. omega arith)

pub returns-then-left-body : goal.returns-then-left-body
returns-then-left-body c =
    rw (← c.in_ok-kind.ensures) (
      fails_whole today _ _ _ _ (kind_known _) (sym c.follows.ensures ∙ c.if-not-follows.false)
          (rw c.body.ensures at c.if-left-body.true),
      λ z. omega arith,
    )

pub returns-then-limit-held : goal.returns-then-limit-held
returns-then-limit-held c =
    rw (← c.in_ok-kind.ensures) (
      fails_limit today _ _ _ _ (kind_known _) (sym c.follows.ensures ∙ c.if-not-follows.false)
          (rw c.body.ensures at c.if-left-body.false) (rw (c.held.ensures, c.limit.ensures) at c.if-limit-held.true),
      λ z. omega arith,
    )

pub returns : goal.returns
returns c = (
  c.in_ok-kind.ensures,
  rw (← c.in_ok-kind.ensures) (sym (passes today _ _ _ _ (kind_known _) (sym c.follows.ensures ∙ c.if-not-follows.false)
      (rw c.body.ensures at c.if-left-body.false) (rw (c.held.ensures, c.limit.ensures) at c.if-limit-held.false))),
)

pub returns-in_err-kind : goal.returns-in_err-kind
returns-in_err-kind c = let h = c.from_residual.ensures in go c.from_residual.result h.0 h.1
  where
    go : (r : Result Kind ℕ) → IsErr r → IsErrAnd r (λ e. e ≡ c.in_err-kind.field-0.0) → Tests (standing c.args.before) c.args.byte (held_of (counted c.args.counts) c.args.byte) c.args.left r
    go (Ok k) a b = absurd (true≢false (sym a))
    go (Err e) a b = rw b (rw c.in_err-kind.ensures.0 (fails_known today _ _ _ _ c.in_err-kind.ensures.1), λ z. omega (arith, c.in_err-kind.ensures.0))
