-- The value at a point: model and meaning.
pub mod Monomial
pub mod PowerLaws
pub mod Model
pub mod ModelLaws
pub mod Meaning
pub mod Laws
