-- lemmas, each file on one subject
pub mod ChainWeights
pub mod SentUnits
pub mod PairChains
pub mod Contained
mod Worked
