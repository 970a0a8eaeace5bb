pub mod Masks
pub mod Windows
pub mod Clearing
pub mod Tables
