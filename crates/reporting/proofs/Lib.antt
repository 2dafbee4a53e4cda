pub mod Answered
pub mod Counted
pub mod CountedReport
pub mod GapPut
pub mod GapsLeft
pub mod GapsWritten
