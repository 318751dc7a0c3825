pub mod Recording
pub mod Replay
pub mod Blocks
pub mod Examples
pub mod Decoded
