pub mod Added
pub mod Decimal
pub mod Examples
pub mod FoundAgain
pub mod Putting
pub mod Writing
