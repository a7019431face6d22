-- lists, roles, tilings and pairs
pub mod Lists
pub mod Sorted
pub mod Roles
pub mod Tiles
pub mod Pairs
pub mod Stack
pub mod PairOrder
-- what a grammar keeps to
pub mod Sound
-- at most one marking meets the conditions
pub mod Unique
-- the reading makes one that does, with its spans
pub mod Next
pub mod Extend
pub mod Found
pub mod SpanStep
pub mod Exists
-- the scan, which keeps places only
pub mod Simulates
pub mod Finish
-- the brackets open at a point
pub mod OpenList
pub mod OpenStep
pub mod Keeps
pub mod Over
-- the theorems
pub mod Computes
pub mod Demand3
