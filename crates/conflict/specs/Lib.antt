pub mod Conflict
pub mod Reading
pub mod Rows
pub mod Samples
