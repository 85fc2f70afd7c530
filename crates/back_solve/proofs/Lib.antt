-- lemmas, each file on one subject
pub mod NextWeight
pub mod WeightLists
pub mod Solving
mod Worked
