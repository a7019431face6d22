pub mod Utf8
pub mod Sequences
pub mod Reading
pub mod Promise
pub mod Claims
pub mod Samples
