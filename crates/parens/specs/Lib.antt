pub mod Unclosed
pub mod Samples
