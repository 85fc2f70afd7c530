-- lemmas, each file on one subject
pub mod Sums
pub mod TimeEnds
pub mod Times
pub mod Contain
