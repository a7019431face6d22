pub mod Most
pub mod Stack
pub mod Loop
pub mod Turns
pub mod Plain
