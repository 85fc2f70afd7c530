pub mod Days
pub mod DayRows
pub mod Refusals
pub mod Sends
pub mod Counts
pub mod Fleets
pub mod Played
pub mod Texts
