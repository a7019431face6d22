pub mod Lists
pub mod Lookup
pub mod Spans
pub mod Pages
pub mod Claims
