-- Eight numbers as polynomials in x, and Euclid's algorithm.
pub mod Model
pub mod Steps
pub mod Numbers
pub mod Meaning
pub mod Quotient
pub mod Turns
pub mod Gcd
