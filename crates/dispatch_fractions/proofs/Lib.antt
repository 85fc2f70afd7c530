-- lemmas, each file on one subject
pub mod Holding
pub mod FlowEnds
pub mod Contain
