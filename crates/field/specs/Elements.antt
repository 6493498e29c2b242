-- Numbers modulo p: the field laws, and what the code computes.
pub mod Remainder
pub mod Fp
pub mod Inverse
pub mod Link
pub mod Chase
pub mod Products
pub mod Plain
