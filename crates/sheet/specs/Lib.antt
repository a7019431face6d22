pub mod Alone
pub mod Answers
pub mod Claims
pub mod Samples
