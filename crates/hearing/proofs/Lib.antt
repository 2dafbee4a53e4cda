pub mod Answered
pub mod AskedOfNeighbours
pub mod Cleared
pub mod EmptyRecord
pub mod Judged
pub mod NeighboursFound
pub mod SpanKept
