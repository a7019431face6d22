pub mod Differences
pub mod Conflicts
pub mod Turns
