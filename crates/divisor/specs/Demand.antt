-- Demand 3.
pub mod Complete
pub mod Quotients
pub mod Degree
pub mod Laws
pub mod Proposed
pub mod GoodPoint
