pub mod Row
pub mod First
pub mod Reading
pub mod Listing
pub mod Samples
