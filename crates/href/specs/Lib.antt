pub mod Href
pub mod Reading
pub mod Samples
