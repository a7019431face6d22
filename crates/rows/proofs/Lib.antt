pub mod Put
pub mod Filled
pub mod Storing
pub mod Standing
