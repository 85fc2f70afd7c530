pub mod Certificates
pub mod Masses
