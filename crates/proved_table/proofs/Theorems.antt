-- The theorems.
pub mod Proved
pub mod Refuted
