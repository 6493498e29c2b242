-- What the solution settles.
pub mod Model
pub mod Laws
pub mod Output
