-- The model of what `src/record.rt` asks and promises, and the laws of one record.
pub mod Room
pub mod Tests
pub mod Packing
pub mod Arrays
pub mod Today
pub mod Kinds
