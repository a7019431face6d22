pub mod Read
pub mod Render
pub mod Resolve
pub mod SameLabel
