pub mod Lookup
pub mod Steps
pub mod Search
pub mod Answers
pub mod NoteWins
pub mod Alike
pub mod Demand1
pub mod Promise
