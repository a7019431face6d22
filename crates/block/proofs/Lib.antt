pub mod Turns
pub mod Lines
pub mod Parts
pub mod Blocks
pub mod Places
pub mod Maximal
