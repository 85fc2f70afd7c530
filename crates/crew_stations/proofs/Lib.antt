-- lemmas, each file on one subject
pub mod Lumping
pub mod Exchanging
pub mod Radix
pub mod Counting
pub mod Answering
pub mod Sending
pub mod Lumped
pub mod Parts
pub mod Ratios
pub mod Exhausted
pub mod Swapping
pub mod Blocks
pub mod CrewLists
pub mod Expanding
pub mod Neighbours
pub mod Flows
pub mod StateChain
pub mod Spreading
pub mod OneCrewEach
pub mod Positive
pub mod Sharing
mod WorkedStations
mod WorkedFleet
pub mod Balance
pub mod Fleets
