pub mod Pair
pub mod Word
