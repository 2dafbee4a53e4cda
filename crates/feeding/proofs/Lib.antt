pub mod ReadBehind
