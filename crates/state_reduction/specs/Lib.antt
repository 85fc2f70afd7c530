pub mod Laws
pub mod Reductions
