pub mod Store
pub mod Relax
pub mod Turn
pub mod Start
pub mod Operations
