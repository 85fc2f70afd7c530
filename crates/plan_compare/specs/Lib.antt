pub mod Refusals
pub mod Documents
pub mod Solving
pub mod Studies
pub mod Values
pub mod Verdicts
pub mod Comparisons
pub mod Truth
