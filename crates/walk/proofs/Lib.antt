pub mod Ends
pub mod Steps
pub mod Items
pub mod Listing
pub mod Whole
pub mod Places
