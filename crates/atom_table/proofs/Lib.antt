-- lemmas, each file on one subject
pub mod AcceptedEntries
pub mod FirstBelow
pub mod GivenValues
pub mod PairSteps
pub mod NameLists
pub mod OwnNames
pub mod StepByStep
