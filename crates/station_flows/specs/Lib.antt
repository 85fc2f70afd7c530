pub mod StateRates
pub mod CertifiedStates
