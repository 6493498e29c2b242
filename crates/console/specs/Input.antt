-- What is read of a file.
pub mod First
pub mod Lists
pub mod Settled
