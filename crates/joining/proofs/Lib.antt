pub mod Answered
pub mod BesideFound
pub mod BitsOfEither
pub mod Judged
pub mod LowestSearched
pub mod UnionWritten
