-- lemmas, each file on one subject
pub mod Lists
pub mod Once
pub mod SiteMeasures
pub mod Verbs
pub mod Worked
