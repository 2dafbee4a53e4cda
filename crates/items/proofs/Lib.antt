pub mod Cases
pub mod Enough
pub mod Example
