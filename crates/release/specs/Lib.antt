pub mod Old
pub mod Claims
