-- The equation table: model and meaning.
pub mod Model
pub mod Meaning
pub mod Added
pub mod Answer
pub mod Columns
pub mod Entries
pub mod Kept
pub mod Rows
pub mod Solution
pub mod Step
pub mod Turns
