pub mod Thinning
pub mod Answer
pub mod Known
pub mod Points
