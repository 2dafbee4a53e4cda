pub mod Limits
pub mod OneNumber
pub mod Refusals
