pub mod Byte
pub mod Member
pub mod Lists
pub mod Every
pub mod Closing
pub mod Reading
pub mod Ascii
pub mod Samples
