pub mod Floors
pub mod Sights
pub mod Packed
