-- What the proofs of keys share.
pub mod Fields
