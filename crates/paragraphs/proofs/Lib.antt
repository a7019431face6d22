pub mod Filling
pub mod Turns
pub mod Most
pub mod Listed
pub mod Results
