-- lemmas, each file on one subject
pub mod QueueWeights
pub mod PlanQueues
pub mod QueueMasses
pub mod Existence
pub mod Items
pub mod Contain
pub mod Enclosures
mod WorkedPlaces
