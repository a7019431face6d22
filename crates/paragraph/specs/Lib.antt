pub mod Tally
pub mod Promise
pub mod Samples
