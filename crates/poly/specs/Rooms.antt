-- The rooms that are lent.
pub mod Laws
