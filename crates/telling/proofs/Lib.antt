pub mod AccountMade
pub mod AccountParts
pub mod GapsTold
pub mod PrintedExample
pub mod RefusalFoundAgain
