-- lemmas, each file on one subject
pub mod MaximumPrinciple
pub mod MassLists
mod WorkedRing
