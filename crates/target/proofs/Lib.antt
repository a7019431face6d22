pub mod Turns
pub mod Space
pub mod Parentheses
pub mod Raw
pub mod Delimited
pub mod Destinations
pub mod Titles
