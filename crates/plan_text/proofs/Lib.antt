-- lemmas, each file on one subject
pub mod LastDropped
pub mod CleanedFields
pub mod WholeReading
pub mod Front
pub mod Over
pub mod RowsLeft
pub mod RowByRow
pub mod InForm
pub mod NoGroups
