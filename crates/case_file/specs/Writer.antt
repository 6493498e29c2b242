-- The model of what `src/writer.rt` asks and promises, and the laws of the writer: the case of a call, its length, and the round trips.
pub mod Cases
pub mod Length
pub mod Room
pub mod Turns
pub mod Check
pub mod Determined
pub mod RoundTrips
