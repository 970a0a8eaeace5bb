pub mod Keeping
pub mod Sequence
pub mod Passing
pub mod Filling
