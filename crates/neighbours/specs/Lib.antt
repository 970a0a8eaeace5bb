pub mod Reading
pub mod Least
pub mod Choice
pub mod Rows
