pub mod Joined
pub mod Places
pub mod Few
pub mod Listing
