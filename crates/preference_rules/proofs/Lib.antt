-- lemmas, each file on one subject
pub mod CentreLists
pub mod MeanPlaces
pub mod ListRows
pub mod CentredRows
pub mod DraftSteps
pub mod FullLists
pub mod GivenRows
pub mod AcceptedLists
pub mod SingleLists
