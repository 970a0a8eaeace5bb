pub mod Choices
pub mod Answer
pub mod Known
pub mod Lists
