-- A point that occurs twice.
pub mod Equations
pub mod Rule
pub mod Calls
