pub mod Escaping
pub mod Reading
pub mod Clean
pub mod Samples
