-- the reading over a paragraph's bytes
pub mod Found
pub mod Turns
-- the rows at the pieces of a paragraph, how far rows reach, and those that stand in a paragraph
pub mod Pieces
pub mod Descriptions
pub mod Numbers
pub mod Extent
pub mod Here
pub mod Nested
pub mod Parts
-- the page that is read from the rows is the page of the markings
pub mod Texts
pub mod Steps
pub mod Content
pub mod Page
-- it is the one that the rows call for
pub mod Proper
pub mod Ranges
pub mod Tiling
pub mod ByRows
-- what a page holds, and how long it is
pub mod Safety
pub mod Lengths
pub mod Claims
-- the samples by the law
pub mod Samples
