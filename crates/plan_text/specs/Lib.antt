pub mod Rows
pub mod Steps
pub mod Fields
pub mod Kinds
pub mod Reading
pub mod Form
pub mod First
