pub mod Labels
pub mod Heads
pub mod Lists
pub mod Rows
pub mod Reports
pub mod TooWide
