pub mod PartLists
pub mod Fractions
