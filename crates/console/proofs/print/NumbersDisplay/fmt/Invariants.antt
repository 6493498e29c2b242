-- `console::print::NumbersDisplay::fmt` writes the numbers in decimal with a space between two: the loop has written each that it has passed, behind a space.
use Rattle.std.proofs.Common.{take}
use Rattle.std.specs.List.{flat_map}
use Rattle.std.specs.Fmt.{HasWritten, IsPlainFormatter}
use Rattle.console.specs.Printed.{behind_space}
use Rattle.console.proofs.print.NumbersDisplay.fmt.Given as goal

abbrev pub invariant-loop-number : goal.invariant-loop-number
invariant-loop-number g l =
    IsPlainFormatter l.initial.f → HasWritten g.W.Write.write_str_gives l.initial.f (flat_map behind_space (take l.number-index l.rest)) l.f
