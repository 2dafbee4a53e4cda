pub mod InOne
pub mod StoredInFront
pub mod Told
pub mod Widths
