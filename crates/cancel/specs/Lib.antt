-- The Cancel key: the call, and what follows from its promise.
pub mod CancelCall
pub mod Cancelled
pub mod CancelCeiling
pub mod Scaling
pub mod Cancelling
