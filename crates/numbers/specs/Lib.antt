pub mod Answers
pub mod Widths
