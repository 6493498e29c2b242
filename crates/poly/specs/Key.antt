-- Keys and terms: the model of packing, and laws.
pub mod Model
pub mod Laws
pub mod Difference
pub mod Terms
