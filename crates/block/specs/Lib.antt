pub mod Line
pub mod Block
pub mod Reading
pub mod Samples
