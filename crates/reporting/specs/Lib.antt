pub mod Counting
pub mod Writing
