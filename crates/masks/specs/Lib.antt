pub mod Masks
pub mod Windows
