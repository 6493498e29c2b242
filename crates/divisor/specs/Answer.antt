-- The code's answer is the rule's, and the rule has one answer.
pub mod Laws
pub mod Assembled
pub mod Determined
pub mod CandidateDetermined
pub mod Accepted
