pub mod FramesCounted
pub mod ReadTold
