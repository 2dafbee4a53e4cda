pub mod HeardSoFar
pub mod PartOfRow
pub mod WholeSequence
