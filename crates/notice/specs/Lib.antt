pub mod Answers
pub mod Reading
pub mod Promise
pub mod Claims
pub mod Spans
pub mod Samples
