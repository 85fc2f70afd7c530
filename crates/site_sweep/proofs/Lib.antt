-- lemmas, each file on one subject
pub mod PlacedTables
pub mod AcceptedPlaces
pub mod PlanValues
pub mod BestSites
pub mod NamedUnits
mod WorkedSites
