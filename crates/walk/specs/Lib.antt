pub mod Reading
pub mod Promise
