-- lemmas, each file on one subject
pub mod TurnRates
pub mod Enclosing
