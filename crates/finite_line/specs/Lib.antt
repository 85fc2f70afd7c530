pub mod FiniteSolutions
pub mod FiniteMeasures
pub mod FiniteWeights
pub mod PrintedEnds
pub mod Refusals
pub mod Rows
