pub mod Joined
pub mod Reading
pub mod Samples
