pub mod Travel
pub mod Cross
pub mod Enters
pub mod Sees
pub mod Symmetry
pub mod Corners
pub mod First
mod Found
mod Drawn
pub mod Obstacles
pub mod Runs
pub mod Rows
pub mod Named
mod Unit
mod Common
pub mod Vertices
pub mod Nearest
pub mod Passed
pub mod Question
