pub mod Page
pub mod ByRows
pub mod Reading
pub mod Claims
pub mod Samples
