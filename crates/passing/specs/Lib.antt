pub mod Passing
pub mod Pieces
