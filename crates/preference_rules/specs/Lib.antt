pub mod Places
pub mod CentreOrder
pub mod Centred
pub mod Rows
pub mod Lists
pub mod Given
pub mod Drafts
