-- lemmas, each file on one subject
pub mod Agreement
pub mod OneList
pub mod Progress
pub mod ModelEnds
pub mod DayForm
pub mod Counting
mod Worked
pub mod OwnNames
