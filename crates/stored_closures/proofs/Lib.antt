pub mod Numbers
pub mod Table
pub mod Answered
pub mod Simulation
