-- A list of terms times a number.
pub mod Model
pub mod Turns
pub mod Laws
