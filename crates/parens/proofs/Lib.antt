pub mod Slashes
pub mod Filling
pub mod LeftOpen
pub mod Running
pub mod Parts
pub mod Complete
