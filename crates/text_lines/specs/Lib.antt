pub mod Fields
pub mod Fractions
pub mod Numbers
pub mod RefusalCodes
