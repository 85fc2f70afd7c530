pub mod Ends
pub mod WeightList
