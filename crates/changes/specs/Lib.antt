pub mod Changes
pub mod Known
