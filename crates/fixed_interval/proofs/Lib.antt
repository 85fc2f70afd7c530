pub mod Rounding
pub mod Scaled
pub mod Shifts
