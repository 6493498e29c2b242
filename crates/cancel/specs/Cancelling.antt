-- The key: its table by the candidate's, what two quotients give, and what its promise settles.
pub mod Model
pub mod Tables
pub mod Products
pub mod Lists
pub mod Determined
pub mod Theorems
pub mod Ceiling
pub mod Reducing
pub mod Answers
