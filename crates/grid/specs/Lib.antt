pub mod Grid
pub mod Known
pub mod Leaving
