pub mod Offsets
pub mod Classes
