-- The divisor of a solution.
pub mod Model
pub mod Laws
pub mod Terms
pub mod Value
pub mod List
pub mod Decided
