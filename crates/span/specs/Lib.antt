pub mod Row
pub mod Reading
pub mod Samples
