pub mod Choosing
pub mod Counting
pub mod Laying
pub mod LittleEndian
pub mod ReadAgain
pub mod ShiftsAndMasks
pub mod Tests
