pub mod Shapes
pub mod Kept
pub mod Answered
pub mod Unread
pub mod Recording
