pub mod Tested
pub mod Claims
