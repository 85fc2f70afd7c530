pub mod Acceptance
pub mod PairRates
pub mod PairMeasures
pub mod ChainWeights
pub mod PairEnds
pub mod PairTexts
pub mod Refusals
