pub mod Turn
pub mod Plain
