-- The image at a point and the image service.
pub mod Model
pub mod Laws
pub mod ModelLaws
pub mod Call
