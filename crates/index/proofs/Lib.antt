pub mod Labels
pub mod Search
pub mod Claims
