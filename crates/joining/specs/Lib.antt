pub mod Beside
pub mod EitherByBits
