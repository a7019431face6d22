pub mod Label
pub mod Reading
pub mod Claims
pub mod Samples
