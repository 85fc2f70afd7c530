-- lemmas, each file on one subject
pub mod Pooling
pub mod Gathering
pub mod PooledMeasures
pub mod Workloads
pub mod Contain
pub mod CrewWeights
mod EachCrew
pub mod Denominators
pub mod FleetLists
pub mod WordSums
