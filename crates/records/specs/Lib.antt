pub mod Format
pub mod Lines
pub mod Known
pub mod Settled
