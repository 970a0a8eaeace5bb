pub mod Lawful
pub mod Jobs
pub mod Masks
pub mod Costs
