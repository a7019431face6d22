pub mod Marks
pub mod Openings
pub mod Bounds
pub mod Step
pub mod CodeSteps
