pub mod Division
pub mod Folding
pub mod LastDigits
pub mod Linear
pub mod Multiple
pub mod Rows
pub mod ShortSums
pub mod Sums
