pub mod Note
pub mod Reading
pub mod Claims
pub mod Samples
