-- the rows of the table
pub mod Rows
-- the cursor
pub mod Cursors
pub mod Found
-- the table of places
pub mod Entries
pub mod Marks
pub mod Starts
pub mod Told
