-- lemmas, each file on one subject
pub mod StateRates
pub mod Enclosing
