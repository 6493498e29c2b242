-- The mathematics that the layers cite: generic in the ring or the field, constructive, without a function of code.
-- Definitions in reading order, then what computes, and laws.
pub mod Ring
pub mod Field
pub mod Series
pub mod SeriesRing
pub mod Degree
pub mod Domain
pub mod Polynomials
pub mod Divides
pub mod GreatestCommon
pub mod Univariate
pub mod Mono
pub mod Four
pub mod Monomial
pub mod Lead
pub mod GreatestExponent
pub mod Division
pub mod Linear
pub mod Evaluation
pub mod Evaluate
pub mod Models
pub mod Laws
