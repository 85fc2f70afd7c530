pub mod PlanWeights
pub mod Enclosures
pub mod SoundEnclosures
pub mod Solvers
