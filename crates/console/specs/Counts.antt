-- What the contracts of counts cite.
use Rattle.std.specs.Prelude.{◌≡◌, ℕ, ◌≤◌, List, length, take}
use Rattle.std.specs.Io.KnownBytes.{Consumes}
use Rattle.std.specs.declared.option.Option.{Option}

-- `&xs[..n]` is in bounds and has n numbers. The second part follows from the first, and spares a caller's `&xs[..n]` a proof file.
abbrev pub IsPrefixLen : ℕ → List ℕ → Type 0
IsPrefixLen n xs = (n ≤ length xs) × (n ≡ length (take n xs))

-- what a reader has lost of its known bytes stands first in the room
abbrev pub StandsFirst : Option (List ℕ) → Option (List ℕ) → List ℕ → Type 0
StandsFirst old new room = (n : ℕ) × (n ≤ length room) × Consumes old new (take n room)
