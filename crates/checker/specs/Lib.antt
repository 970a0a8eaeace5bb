pub mod Answer
pub mod Tests
