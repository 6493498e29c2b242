-- Sorting the points.
pub mod Turns
pub mod Model
pub mod Laws
pub mod Places
pub mod Kept
