pub mod Mending
pub mod Known
