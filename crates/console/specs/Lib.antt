-- What the contracts of the programs' common functions say; then, for each source module, its laws.
pub mod Counts
pub mod Printed
pub mod OfFile
pub mod CandidateOfFile
pub mod Input
pub mod Answer
