pub mod BenchExamples
pub mod Early
pub mod OnePaper
pub mod RangeOfLateness
pub mod StampIsDue
pub mod Wrapping
