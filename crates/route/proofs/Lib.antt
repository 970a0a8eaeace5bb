pub mod Settling
pub mod Sending
pub mod Running
