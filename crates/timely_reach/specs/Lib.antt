pub mod TimelyPlans
pub mod Reach
pub mod ReachLaws
pub mod ReachEnds
pub mod ReachRows
pub mod Rows
