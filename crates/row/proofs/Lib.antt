pub mod Put
pub mod Turn
pub mod Filled
pub mod First
