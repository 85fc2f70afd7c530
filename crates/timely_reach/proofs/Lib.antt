-- lemmas, each file on one subject
pub mod TimelyTables
pub mod SameMasses
pub mod TimelyTimes
pub mod ReachLaws
pub mod TimelyPlans
pub mod Contain
pub mod ReachRows
mod WorkedReach
