pub mod LoadEnds
