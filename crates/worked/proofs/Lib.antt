pub mod Worked
pub mod Sights
pub mod Example
pub mod Packed
