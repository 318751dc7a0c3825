pub mod Replay
pub mod Layout
pub mod Zeroed
