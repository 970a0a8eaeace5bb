pub mod Moving
pub mod Taken
pub mod Reached
pub mod Shaped
pub mod Walked
pub mod Small
