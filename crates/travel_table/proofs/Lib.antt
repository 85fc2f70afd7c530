-- lemmas, each file on one subject
pub mod AcceptedTravel
pub mod TravelSteps
