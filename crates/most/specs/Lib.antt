pub mod Most
pub mod Counting
pub mod Samples
