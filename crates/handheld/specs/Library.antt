-- The results of the library are determined, and name the list of their number.
pub mod Determined
pub mod AnotherList
