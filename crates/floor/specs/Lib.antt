pub mod Floor
pub mod Known
pub mod Plan
pub mod Window
pub mod Refusals
