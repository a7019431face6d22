pub mod Blanks
pub mod Left
pub mod Turn
pub mod Quick
pub mod Opening
pub mod Bytes
pub mod Run
pub mod Counting
