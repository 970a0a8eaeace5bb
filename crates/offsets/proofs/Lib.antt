pub mod Masked
pub mod Classes
