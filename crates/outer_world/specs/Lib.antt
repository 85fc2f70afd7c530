pub mod Faults
pub mod MemoryShelf
pub mod MemorySink
pub mod Shelf
pub mod Sink
pub mod SureShelf
pub mod SureSink
pub mod Taken
