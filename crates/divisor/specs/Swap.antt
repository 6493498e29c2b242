-- A and B exchanged.
pub mod Rule
pub mod Calls
