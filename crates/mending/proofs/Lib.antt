pub mod Shaped
pub mod Refused
pub mod Taken
