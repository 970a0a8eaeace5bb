pub mod Replay
pub mod Known
