pub mod Marking
pub mod Spans
pub mod Open
pub mod Claims
pub mod ReadingRules
pub mod Reading
pub mod ReadingSpans
pub mod Samples
