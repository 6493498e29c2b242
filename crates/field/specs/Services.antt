-- The arithmetic services are deterministic.
pub mod Laws
