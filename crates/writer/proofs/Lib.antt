pub mod Packed
pub mod Sealing
