pub mod Table
pub mod Signs
pub mod Steps
pub mod Opposites
pub mod Leaving
pub mod Cells
