pub mod Table
pub mod Fold
pub mod Claims
pub mod Samples
