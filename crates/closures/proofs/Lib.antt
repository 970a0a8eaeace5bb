pub mod Shapes
pub mod Search
pub mod Marks
pub mod Rows
pub mod Simulation
pub mod Working
