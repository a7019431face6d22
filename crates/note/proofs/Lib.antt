-- lists
pub mod Members
-- exactly one marking of each paragraph
pub mod Markings
-- the span rows are those of the markings: paragraph by paragraph, and each once, in order of end
pub mod SpanRows
pub mod Rows
pub mod Spans
pub mod Order
pub mod EachRow
-- what a row says: places, and the definition of a reference
pub mod Named
pub mod Placing
pub mod Fits
pub mod References
-- the first bracket too many
pub mod Depth
pub mod Bracket
-- demand 3
pub mod Demand3
-- the samples by the law
pub mod Openings
pub mod Samples
