-- lemmas, each file on one subject
pub mod AcceptedLocations
pub mod LocationSteps
