pub mod Spanned
pub mod Cursor
pub mod Starts
pub mod Entries
