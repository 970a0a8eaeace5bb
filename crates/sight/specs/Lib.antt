pub mod Sight
pub mod Obstacle
pub mod Rows
pub mod Question
pub mod Travel
pub mod Drawn
