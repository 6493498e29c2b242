-- What is found of a file.
pub mod OfFile
pub mod TermsFirst
pub mod Candidate
