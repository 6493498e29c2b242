-- What the contracts of the static library say, and that they determine the results.
pub mod Layout
pub mod Library
