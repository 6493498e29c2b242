-- The quotient service.
pub mod Cells
pub mod Found
pub mod Exact
pub mod Laws
