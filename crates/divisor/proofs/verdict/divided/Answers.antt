-- `divisor::verdict::divided` meets its contract: the divisor of the only solution, and what the two divisions say of it.
use Rattle.std.proofs.Common.{refl, ◌∙◌, arith}
use Rattle.field.specs.Faults.Laws.{exit_err}
use Rattle.divisor.specs.Verdict.Laws.{fits_output, settled_rejected, settled_accepted}
use Rattle.divisor.proofs.verdict.divided.Goals as goal

pub returns-in_err-steps : goal.returns-in_err-steps
returns-in_err-steps c =
    let both = c.in_err-steps.ensures in
    rw (exit_err _ c.from_residual.ensures.1)
    (settled_rejected c.requires (c.list-list.ensures ∙ c.made_monic-divisor.ensures) both.divided (λ z. omega (arith, z, both.numbered)))

pub write-requires : goal.write-requires
write-requires c = fits_output c.requires (c.list-list.ensures ∙ c.made_monic-divisor.ensures)

pub returns : goal.returns
returns c =
    settled_accepted c.requires (c.list-list.ensures ∙ c.made_monic-divisor.ensures) c.in_ok-steps.ensures.divided refl c.write.ensures
