pub mod Promise
pub mod Room
