pub mod Choice
pub mod Numbers
pub mod Runs
