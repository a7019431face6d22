pub mod Form
pub mod Reading
pub mod Before
pub mod Claims
pub mod Samples
