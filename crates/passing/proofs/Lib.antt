pub mod LastAccount
pub mod OneMore
pub mod Telling
pub mod WholeInput
