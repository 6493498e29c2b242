-- The moduli are prime.
pub mod Prime
pub mod Laws
pub mod Match
