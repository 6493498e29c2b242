-- Tables of refusals.
pub mod Laws
pub mod ListAtFault
pub mod Decision
