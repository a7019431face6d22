pub mod Undone
pub mod AsIs
pub mod Escapes
pub mod Cases
pub mod Lengths
pub mod Safety
pub mod Gives
