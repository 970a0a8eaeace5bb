pub mod Moves
pub mod Steps
pub mod AnyTable
pub mod Table
pub mod Leaving
pub mod Cells
