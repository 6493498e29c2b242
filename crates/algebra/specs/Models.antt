-- What computes: normal forms for the ring solver, and elimination. Nobody has to believe it: its laws carry it to the definitions.
pub mod NormalForm
pub mod Elimination
