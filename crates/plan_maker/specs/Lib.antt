pub mod Draws
pub mod Rows
pub mod Plans
pub mod Refusals
