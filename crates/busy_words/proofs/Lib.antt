-- lemmas, each file on one subject
pub mod Levels
pub mod Ordering
pub mod FirstGroups
pub mod Algebra
pub mod SetParts
pub mod Spans
pub mod Places
pub mod MassParts
pub mod WeightParts
pub mod MeasureEnds
