pub mod Reading
pub mod Left
