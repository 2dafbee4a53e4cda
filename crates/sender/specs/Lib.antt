pub mod Answers
pub mod Calls
pub mod Sequence
pub mod State
