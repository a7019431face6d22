pub mod Target
pub mod Reading
pub mod Samples
