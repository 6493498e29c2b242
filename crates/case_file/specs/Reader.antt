-- The laws of reading, of any format and of today's.
pub mod Added
pub mod Steps
pub mod Standing
pub mod Alone
pub mod RoundTrip
pub mod ReadBack
pub mod Accepted
pub mod Settled
pub mod Within
pub mod Lent
pub mod Today
pub mod Adding
pub mod Progress
pub mod Determined
pub mod AnotherList
pub mod Examples
