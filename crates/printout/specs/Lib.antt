pub mod Printed
pub mod Stepping
