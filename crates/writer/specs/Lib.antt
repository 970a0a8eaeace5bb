pub mod Records
pub mod Writing
pub mod Calls
pub mod Known
