-- The check of a point.
pub mod Check
