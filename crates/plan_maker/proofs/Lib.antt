-- lemmas, each file on one subject
pub mod States
