-- lemmas, each file on one subject
pub mod PlanChains
pub mod SoundMeasures
pub mod AllMeasures
pub mod RegionValues
pub mod SolvedPlans
