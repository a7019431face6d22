pub mod Building
pub mod Rows
