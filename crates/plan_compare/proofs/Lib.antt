-- lemmas, each file on one subject
pub mod Documents
pub mod FirstPlaces
pub mod StudyForms
pub mod StudySteps
pub mod Pieces
pub mod Pairs
pub mod MeasureRows
pub mod VerdictRows
pub mod WideValues
pub mod TrueVerdicts
pub mod SlotLists
