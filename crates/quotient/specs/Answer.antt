-- What is found of a file.
pub mod Quotient
