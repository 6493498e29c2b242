-- The ceiling on the steps of division.
pub mod Steps
pub mod Calls
