-- lemmas, each file on one subject
pub mod BandLemmas
pub mod RowFilling
pub mod ExactMatrix
pub mod Raising
pub mod Sameness
pub mod Totals
pub mod RowUpdates
pub mod SlicePlaces
pub mod RowsOfBand
pub mod RowChunks
pub mod BandUpdates
pub mod MatrixUpdates
pub mod WordChains
pub mod LevelRanks
pub mod PackedWords
mod WorkedChain
