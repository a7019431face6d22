pub mod Bytes
pub mod Href
pub mod Lengths
pub mod Safety
