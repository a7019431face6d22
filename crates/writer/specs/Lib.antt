pub mod Pass
pub mod Samples
