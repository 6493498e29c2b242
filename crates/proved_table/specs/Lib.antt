-- The proved table: P1 to P12 (docs/RULE.md) as one table, proved from the definitions by one computed test; and wrong results that the contracts refute.
-- Row, Table, MoreRows, CancelRows, CeilingRows, Wrong, WrongResults, WrongServices, WrongCancels, WrongCeilings, WrongWrites and WrongPicks are what is
-- to be believed; the others compute the tests and prove them right.
pub mod Row
pub mod Table
pub mod MoreRows
pub mod CancelRows
pub mod CeilingRows
pub mod Wrong
pub mod WrongResults
pub mod WrongServices
pub mod WrongCancels
pub mod WrongCeilings
pub mod WrongWrites
pub mod WrongPicks
pub mod Test
