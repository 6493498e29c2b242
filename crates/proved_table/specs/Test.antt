-- The computed test of a row, and that what passes it holds.
pub mod Computed
pub mod ComputedLaws
pub mod Decisions
pub mod TermDivision
pub mod TermDivisionLaws
pub mod Rows
pub mod RowsLaws
pub mod Cancels
pub mod CancelsLaws
pub mod Writes
pub mod WritesLaws
pub mod WrongLaws
pub mod Wrong
pub mod Picks
pub mod PicksLaws
