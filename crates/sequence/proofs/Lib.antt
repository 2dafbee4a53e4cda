pub mod BenchExamples
pub mod DroppedContradicts
pub mod FramesOfSender
pub mod NeverRefused
pub mod OnlyWhichFrames
pub mod PiecesRead
