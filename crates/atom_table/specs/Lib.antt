pub mod Names
pub mod Entries
pub mod Refusals
pub mod Pairs
