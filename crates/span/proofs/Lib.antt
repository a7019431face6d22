pub mod Put
pub mod Filled
pub mod Small
pub mod Read
