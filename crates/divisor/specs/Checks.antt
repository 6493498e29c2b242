-- The checks of the inputs.
pub mod Laws
pub mod Passed
