pub mod Check
pub mod Exponents
pub mod Inside
pub mod Rows
