pub mod Start
pub mod Central
pub mod Thinned
pub mod Planning
pub mod Lines
pub mod Program
pub mod Turns
pub mod Cells
