-- The images of the points in the work room.
pub mod Model
pub mod PartsModel
pub mod Parts
pub mod Looking
pub mod Seen
pub mod Stores
