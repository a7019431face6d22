pub mod Index
pub mod Props
pub mod Rows
pub mod Claims
