-- What is proved of the table and of the wrong results.
pub mod Theorems
