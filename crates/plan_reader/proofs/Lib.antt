-- lemmas, each file on one subject
pub mod SettingSteps
pub mod AcceptedPlan
pub mod FirstCondition
pub mod SingleParts
pub mod StateCounts
pub mod CrewCounts
pub mod AcceptedFleet
pub mod FleetSteps
