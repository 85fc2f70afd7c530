pub mod TravelEnds
pub mod Totals
