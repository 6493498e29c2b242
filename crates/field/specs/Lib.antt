-- Layer 1, arithmetic: definitions; then, for each source module, its laws.
pub mod Widths
pub mod Prime
pub mod Moduli
pub mod Fp
pub mod Residues
pub mod Modulo
pub mod Numbers
pub mod Refusal
pub mod Lent
pub mod Contract
pub mod Arithmetic
pub mod Modulus
pub mod Elements
pub mod Faults
pub mod Services
pub mod Loops
