pub mod Plain
pub mod Table
pub mod Calls
pub mod Known
