pub mod Results
pub mod Changes
pub mod Writing
pub mod Legs
pub mod Mending
