-- The ceiling on the steps of division, of the Cancel key: the calls that are alike but for it.
use Rattle.std.specs.Prelude.{ℕ}
use Rattle.cancel.specs.CancelCall.{CancelCall, cancel_call, CancelResult, Cancel}

-- a call with another ceiling
abbrev pub with_ceiling : CancelCall → ℕ → CancelCall
with_ceiling c ceiling =
    cancel_call c.modulus c.numerator c.denominator c.skeleton c.points ceiling c.numerator_output c.denominator_output c.work

-- what the key promises under each ceiling
abbrev pub CancelUnder : CancelCall → ℕ → CancelResult → Type 0
CancelUnder c ceiling = Cancel (with_ceiling c ceiling)
