pub mod TurnRates
pub mod CertifiedWeights
