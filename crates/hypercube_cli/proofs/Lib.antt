-- lemmas, each file on one subject
pub mod ReadPlans
pub mod WideMeasures
pub mod PlanTasks
pub mod TrueTexts
pub mod TrueComparisons
pub mod TrueReplays
pub mod TrueFleets
pub mod Faults
pub mod Endings
