pub mod Elimination
pub mod Bands
pub mod Rows
pub mod Levels
pub mod Weights
pub mod WordChains
pub mod LevelBands
