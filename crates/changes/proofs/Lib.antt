pub mod Cell
pub mod Noting
pub mod Shaped
pub mod Changing
pub mod Jobs
pub mod CellLaws
pub mod CostLaws
