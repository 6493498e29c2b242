-- What the contracts of the case file's reader and writer say; the laws are in the folders `record`, `reader` and `writer`.
pub mod Format
pub mod Case
pub mod Reading
pub mod Written
pub mod Handed
pub mod WriteCall
pub mod RoundTrips
pub mod Kinds
pub mod Record
pub mod Reader
pub mod Writer
