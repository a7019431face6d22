pub mod Link
pub mod Tags
pub mod Lengths
