-- What the proofs of Euclid's steps share.
pub mod Turning
