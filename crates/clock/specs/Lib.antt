pub mod Answers
pub mod Clock
pub mod Paper
