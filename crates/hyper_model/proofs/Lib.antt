-- lemmas, each file on one subject
pub mod Ranges
pub mod Grids
pub mod Grouping
pub mod ListRows
pub mod ListPlaces
pub mod NameText
pub mod PlanSums
pub mod Accepting
pub mod TravelTimes
pub mod Sums
pub mod Tables
pub mod Chains
pub mod Relabel
pub mod Bits
pub mod Takers
pub mod WordTables
pub mod WordRates
pub mod PlanLaws
pub mod Masses
pub mod Denominators
pub mod OneValue
pub mod ValueSteps
pub mod MeasureValues
pub mod WaitingPlaces
pub mod Levels
pub mod Worked
mod WorkedOneUnit
mod WorkedTwoUnits
mod WorkedThreeUnits
mod WorkedMixed
mod WorkedAccepted
mod WorkedGroups
mod WorkedMeasures
mod WorkedWaitingPlaces
