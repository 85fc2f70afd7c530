-- lemmas, each file on one subject
pub mod Steps
pub mod Soundness
pub mod FarZeros
pub mod Enclosing
pub mod Runs
pub mod Frames
pub mod RaisedRows
pub mod Reductions
mod Worked
