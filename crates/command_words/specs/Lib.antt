pub mod Options
pub mod Arguments
pub mod Limits
pub mod Plain
pub mod Command
