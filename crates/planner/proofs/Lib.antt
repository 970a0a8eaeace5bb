pub mod Numbering
pub mod Walking
pub mod Finishing
pub mod Finding
pub mod Shaped
pub mod Together
pub mod Flow
