pub mod Definition
pub mod Note
pub mod Reading
pub mod Samples
