pub mod ChecksPrinted
pub mod StaysReady
pub mod Stepped
pub mod WholeExample
pub mod WholeText
