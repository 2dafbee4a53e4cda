pub mod InPlace
pub mod Values
