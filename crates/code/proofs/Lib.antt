pub mod Runs
pub mod Margin
pub mod Trimming
pub mod Element
pub mod Lengths
pub mod Safety
