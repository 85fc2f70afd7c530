pub mod Grids
pub mod Streets
pub mod Widest
