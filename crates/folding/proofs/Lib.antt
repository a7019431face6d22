pub mod Pair
pub mod Words
