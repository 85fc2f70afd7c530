pub mod Finding
pub mod Placed
pub mod Sites
pub mod Truth
pub mod Texts
